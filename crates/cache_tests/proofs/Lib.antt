mod OpenWindows
mod TwoHeldBlocks
