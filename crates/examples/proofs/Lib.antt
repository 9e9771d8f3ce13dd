mod Opening
mod Playing
mod Resting
mod Scripted
mod Taking
mod Worked
