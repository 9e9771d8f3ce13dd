mod Shaping
mod Showing
mod Telling
