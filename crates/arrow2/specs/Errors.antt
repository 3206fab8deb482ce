-- The errors of the layer, by their names.
pub use Rattle.arrow2_types.specs.declared.error.Error.{Error}
pub use Rattle.arrow2_types.specs.declared.error.Error.TheVariants.{NotYetImplemented, External, Io, InvalidArgumentError, ExternalFormat, Overflow, OutOfSpec, OutOfMemory}
