pub mod CellsRead
