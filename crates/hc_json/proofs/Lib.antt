mod Floats
mod Parsing
