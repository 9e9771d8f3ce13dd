mod Halves
mod Moments
mod Wholes
