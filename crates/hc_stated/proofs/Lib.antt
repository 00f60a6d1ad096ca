mod Putting
mod Within
