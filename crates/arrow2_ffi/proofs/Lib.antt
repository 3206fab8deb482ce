mod BoolSteps
mod OffsetCodes
mod KleeneSteps
mod IndexSteps
mod RunSteps
mod TextCodes
mod WriteSteps
