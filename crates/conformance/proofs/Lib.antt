pub mod HeapSteps
