pub mod LiveBlocks
