-- The state of storage after a loan of it, or of a part of it, has ended.
use Rattle.std.specs.Prelude.{◌≡◌, ℕ, List, length}
use Rattle.std.specs.Borrow.{Lends, LendsIf, MutBor, Fml, Array, RattleType}
use Rattle.std.specs.List.{refill}
use Rattle.std.specs.Rc.{rc_with_value}
use Rattle.std.specs.declared.alloc.Global.{Global}
use Rattle.std.specs.declared.option.Option.{Option}
use Rattle.std.specs.declared.rc.Rc.{Rc}
use Rattle.std.specs.contracts.alloc.Global as heap
use Rattle.std.specs.contracts.impls.GlobalAllocator.TheImpl.{ghosts}
use Rattle.std.specs.contracts.rc.Rc as owned
use Rattle.arrow2_model.specs.Lists.{overwrite, part}
use Rattle.arrow2_buffer.specs.contracts.bytes.Bytes.{the_row}

-- the list `items`, after the list `others` was written over it from index i on, through a loan that can't change the
-- number of items
abbrev pub overwrite_lent : {X : Type 0} → List X → ℕ → List X → List X
overwrite_lent items i others = refill (length items) items (overwrite items i others)

-- `new` is the list `old`, in which n items from index i on were replaced by n items that `may` allows for them
abbrev pub ReplacesPart : {X : Type 0} → (List X → List X → Type 0) → ℕ → ℕ → List X → List X → Type 0
ReplacesPart {X} may i n old new = (changed : List X) × may (part old i n) changed × (length changed ≡ n) × (new ≡ overwrite old i changed)

-- the type of storage in an `Rc`
abbrev pub shared_row : RattleType → RattleType
shared_row T = owned.the_row (the_row T) heap.the_row ghosts

-- r borrows the storage of a sole owner, or is none. After the loan, the storage is the items written through r; where
-- r is none, the storage is as it was
abbrev pub LendsOwned : (T : RattleType) → MutBor (Rc (List T.Denot) Global) → Option (MutBor (List T.Denot)) → Fml
LendsOwned T shared r = LendsIf (shared_row T) (the_row T) shared r (rc_with_value shared.now) shared.now

-- r borrows the part of the storage from index i on. After the loan, the storage has, in place of that part, the items
-- written through r
abbrev pub LendsPart : (T : RattleType) → MutBor (List T.Denot) → ℕ → MutBor (List T.Denot) → Fml
LendsPart T storage i r = Lends (the_row T) (Array T 0) storage r (overwrite_lent storage.now i)

-- the same of the storage of a sole owner, which is as it was where r is none
abbrev pub LendsOwnedPart : (T : RattleType) → MutBor (Rc (List T.Denot) Global) → ℕ → Option (MutBor (List T.Denot)) → Fml
LendsOwnedPart T shared i r = LendsIf (shared_row T) (Array T 0) shared r (λ others. rc_with_value shared.now (overwrite_lent shared.now.value i others)) shared.now
