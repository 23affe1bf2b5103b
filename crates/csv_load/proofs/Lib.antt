mod Steps
mod Reading
mod Blanks
mod Places
mod Each
mod Header
mod Numbered
