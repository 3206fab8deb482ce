-- The results of the program's steps, against the machine of lists.
use Rattle.std.specs.Prelude.{◌≡◌, ◌≢◌, ◌++◌, ℕ, List, Result, Ok, Err, OnOk, IfErr, IsOkAnd}
use Rattle.arrow2.specs.Errors as errors
use Rattle.arrow2_machine.specs.declared.line_error.LineError.{LineError}
use Rattle.arrow2_machine.specs.declared.line_error.LineError.TheVariants.{Range, Overflow}
use Rattle.arrow2_machine.specs.declared.line_error.CommandError.{CommandError}
use Rattle.arrow2_machine.specs.declared.line_error.CommandError.TheVariants.{Rejected, OutOfMemory}
use Rattle.arrow2_machine.specs.SlotValues.{SlotValue, Nothing}

-- the error of a command, by the error of the call that it made
abbrev pub command_error : errors.Error → CommandError
command_error errors.Overflow = Rejected Overflow
command_error (errors.InvalidArgumentError t) = Rejected Range
command_error (errors.OutOfSpec t) = Rejected Range
command_error errors.OutOfMemory = OutOfMemory
command_error (errors.NotYetImplemented t) = Rejected Range
command_error (errors.External message t) = Rejected Range
command_error (errors.Io e) = Rejected Range
command_error (errors.ExternalFormat t) = Rejected Range

-- the machine returns this error, unless an allocation failed
abbrev pub Fails : {Y : Type 0} → CommandError → Result Y LineError → Type 0
Fails OutOfMemory machine = Unit {0}
Fails (Rejected error) machine = machine ≡ Err error

-- the result, seen by view, is that of the machine, unless an allocation failed
abbrev pub Gives : {X Y : Type 0} → (X → Y) → Result X CommandError → Result Y LineError → Type 0
Gives view (Ok x) machine = machine ≡ Ok (view x)
Gives view (Err e) machine = Fails e machine

-- the result, seen by view, is that of the machine, its errors included
abbrev pub MatchesMachine : {X Y : Type 0} → (X → Y) → Result X LineError → Result Y LineError → Type 0
MatchesMachine view (Ok x) machine = machine ≡ Ok (view x)
MatchesMachine view (Err error) machine = machine ≡ Err error

-- a command is carried out as the machine does it: the slots and the reply are unspecified only where an allocation
-- failed
pub record Carries (r : Result Unit CommandError) (old new : List SlotValue) (before after : List ℕ) (machine : Result (List SlotValue × List ℕ) LineError) : Type 0 where
  -- the slots are the machine's, and its reply is appended
  pub ok : OnOk r (IsOkAnd machine (λ a. (new ≡ a.0) × (after ≡ before ++ a.1)))
  -- the machine returns the same error
  pub rejected : IfErr r (λ e. Fails e machine)
  -- an error changes nothing
  pub err : IfErr r (λ e. e ≢ OutOfMemory → (new ≡ old) × (after ≡ before))

-- the reply of the machine is appended; nothing is stated where an allocation failed
pub record WritesText (r : Result Unit CommandError) (before after : List ℕ) (machine : Result (List ℕ) LineError) : Type 0 where
  -- it is the machine's
  pub ok : OnOk r (IsOkAnd machine (λ text. after ≡ before ++ text))
  -- the machine returns the same error
  pub rejected : IfErr r (λ e. Fails e machine)
  -- an error changes nothing
  pub err : IfErr r (λ e. e ≢ OutOfMemory → after ≡ before)

-- a slot turns into the value that the machine makes of it: where an allocation failed, its old value is gone
pub record Turns (r : Result Unit CommandError) (old new : SlotValue) (machine : Result SlotValue LineError) : Type 0 where
  -- it holds the machine's value
  pub gives : Gives (λ _. new) r machine
  -- an error changes nothing
  pub err : IfErr r (λ e. e ≢ OutOfMemory → new ≡ old)
  -- it holds nothing where an allocation failed
  pub memory : r ≡ Err OutOfMemory → new ≡ Nothing
