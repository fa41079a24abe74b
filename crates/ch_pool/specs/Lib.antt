pub mod AllPasses
