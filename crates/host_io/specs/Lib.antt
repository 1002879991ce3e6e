pub mod Counts
pub mod Files
pub mod MemFiles
pub mod MemSink
pub mod Shelves
pub mod Sink
pub mod Streams
