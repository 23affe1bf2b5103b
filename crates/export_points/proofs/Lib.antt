mod InOrder
mod Pieces
mod Ending
