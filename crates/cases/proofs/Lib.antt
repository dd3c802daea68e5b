mod Cells
mod Filled
