mod Below
mod Entries
mod Worlds
