-- Which error a call returns.
use Rattle.std.specs.Prelude.{◌≡◌, ◌⊎◌, ℕ, List, IfErr, Result, string_bytes}
use Rattle.arrow2_types.specs.declared.error.Error.{Error}
use Rattle.arrow2_types.specs.declared.error.Error.TheVariants.{InvalidArgumentError, Overflow, OutOfMemory}
use Rattle.arrow2_types.specs.declared.growth_error.GrowthError.{GrowthError}
use Rattle.arrow2_types.specs.declared.growth_error.GrowthError.TheVariants as growth_error

-- an invalid argument with this message; or `OutOfMemory`, on which this sets no condition
abbrev pub IsInvalidArgumentOrOutOfMemory : Error → List ℕ → Type 0
IsInvalidArgumentOrOutOfMemory (InvalidArgumentError text) words = string_bytes text ≡ words
IsInvalidArgumentOrOutOfMemory OutOfMemory words = Unit {0}
IsInvalidArgumentOrOutOfMemory _ words = ⊥

-- if the call fails, the error is an invalid argument with this message, or `OutOfMemory`
abbrev pub FailsOnlyWith : {T : Type 0} → Result T Error → List ℕ → Type 0
FailsOnlyWith r message = IfErr r (λ e. IsInvalidArgumentOrOutOfMemory e message)

-- if the call fails, the error is `OutOfMemory`
abbrev pub OnlyOutOfMemory : {T : Type 0} → Result T Error → Type 0
OnlyOutOfMemory r = IfErr r (λ e. e ≡ OutOfMemory)

-- if the call fails, the error is `Overflow` or `OutOfMemory`
abbrev pub OnlyOverflowOrOutOfMemory : {T : Type 0} → Result T Error → Type 0
OnlyOverflowOrOutOfMemory r = IfErr r (λ e. (e ≡ Overflow) ⊎ (e ≡ OutOfMemory))

-- the `Error` that a `GrowthError` becomes
abbrev pub error_of : GrowthError → Error
error_of growth_error.Overflow = Overflow
error_of growth_error.OutOfMemory = OutOfMemory
