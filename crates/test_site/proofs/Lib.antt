pub mod MemWrites
