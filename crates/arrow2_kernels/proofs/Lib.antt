pub mod AssignSteps
pub mod LaneSteps
pub mod RowSteps
pub mod TableSteps
pub mod VectorWrites
pub mod WordResults
