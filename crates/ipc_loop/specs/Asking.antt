-- What links are asked for: to take what is left for them, and to give more.
use Rattle.std.specs.Prelude.{◌≡◌, ◌⊎◌, ◌==◌, ◌&&◌, ◌≤◌, ◌<◌, ⊤, length, Bool, true, false, not, ℕ, List, [], ◌∷◌, Option, Some, None, is_none, is_some}
use Rattle.ipc_loop.specs.Moves.{Moved, GoOn, is_asked, is_offered, left_by}
use Rattle.ipc_loop.specs.Ports.{Port, left_of, unfed_of, is_all, stands_in}

-- as many bytes are left for link i as it left when it was offered some last; as were left before, where it was offered none
abbrev pub IsLeft : ℕ → List Moved → Option (List ℕ) → Option (List ℕ) → Type 0
IsLeft i moved left None = ⊤
IsLeft i moved None (Some left') = ⊥
IsLeft i moved (Some left) (Some left') = length left' ≡ left_by i (length left) moved

-- as many bytes are left as link k left when it was offered some last, of n
abbrev pub HasLeft : ℕ → ℕ → List Moved → Option (List ℕ) → Type 0
HasLeft k n moved None = ⊤
HasLeft k n moved (Some left) = length left ≡ left_by k n moved

-- link i was offered nothing
abbrev pub OffersNothing : ℕ → List Moved → Type 0
OffersNothing i moved = (n : ℕ) → left_by i n moved ≡ n

-- how many bytes are left for a link
abbrev pub how_many_left : Option (List ℕ) → ℕ
how_many_left None = 0
how_many_left (Some left) = length left

-- whether some are
abbrev pub has_left : Option (List ℕ) → Bool
has_left None = false
has_left (Some []) = false
has_left (Some (byte ∷ bytes)) = true

-- whether a link gave more if it were asked: it is read, all that was taken for it is written, no requests of it wait to be stepped, and it is not
-- known to give nothing
abbrev pub may_be_read : Port → Bool
may_be_read port = is_none port.ending && (port.may_read && (not port.is_full && is_all port.left))

-- whether bytes are left for a link, and it may be written
abbrev pub may_be_written : Port → Bool
may_be_written port = port.may_write && has_left port.left

-- link i was offered all that was left for it, at once
abbrev pub IsOffered : ℕ → List Moved → Port → Type 0
IsOffered i moved port = is_offered i (how_many_left port.left) moved ≡ true

-- link i was asked for more; or it was offered as much as is written in a turn; or it isn't read any more
abbrev pub IsServed : ℕ → List Moved → Option Port → Type 0
IsServed i moved port = (is_asked i moved ≡ true) ⊎ ((is_offered i 1048576 moved ≡ true) ⊎ (unfed_of port ≡ None))

-- link k alone was offered what was left for it, and asked for more, in its turn
pub record TakesTurn (k : ℕ) (moves moves' : Option (List Moved)) (port port' : Port) : Type 0 where
  pub moved : List Moved
  pub went : GoOn moves moves' moved
  pub others : (i : ℕ) → (k == i) ≡ false → OffersNothing i moved
  pub left : IsLeft k moved port.left port'.left
  pub offered : may_be_written port ≡ true → IsOffered k moved port
  pub served : may_be_read port ≡ true → IsServed k moved (Some port')

-- the same, where it was offered alone
pub record OffersPort (k : ℕ) (moves moves' : Option (List Moved)) (port port' : Port) : Type 0 where
  pub moved : List Moved
  pub went : GoOn moves moves' moved
  pub others : (i : ℕ) → (k == i) ≡ false → OffersNothing i moved
  pub left : IsLeft k moved port.left port'.left

-- no link was offered bytes, and link k was asked for some, if it is read, may be read, has nothing to be stepped, and less than 1 MiB
-- is to be written for it
pub record Reads (k : ℕ) (moves moves' : Option (List Moved)) (port : Port) : Type 0 where
  pub moved : List Moved
  pub went : GoOn moves moves' moved
  pub none : (i : ℕ) → OffersNothing i moved
  pub asked : (left : List ℕ) → port.ending ≡ None → port.left ≡ Some left → length left < 1048576 → port.may_read ≡ true → port.is_full ≡ false → is_asked k moved ≡ true

-- of a port that may be written all that was left is offered; of another, or where nothing is left, nothing happens
abbrev pub FlushesAll : ℕ → List Moved → List ℕ → Port → Port → Type 0
FlushesAll k moved [] port port' = (moved ≡ []) × (port' ≡ port)
FlushesAll k moved (byte ∷ bytes) port port' =
    ((port.may_write ≡ false) × ((moved ≡ []) × (port' ≡ port))) ⊎
    (((n : ℕ) → n ≤ length (byte ∷ bytes) → is_offered k n moved ≡ true) × ((n : ℕ) → HasLeft k n moved port'.left))

-- all that was left for link k was offered, if something was and it may be written; else nothing happened
pub record Flushes (k : ℕ) (moves moves' : Option (List Moved)) (port port' : Port) : Type 0 where
  pub moved : List Moved
  pub went : GoOn moves moves' moved
  pub others : (i : ℕ) → (k == i) ≡ false → OffersNothing i moved
  pub cut : port.left ≡ None → port'.left ≡ None
  pub offered : (left : List ℕ) → port.left ≡ Some left → FlushesAll k moved left port port'

-- from one moment to another: what is left for each link is what it left when it was offered it
pub record Refuses (moves moves' : Option (List Moved)) (ports ports' : ℕ → Option Port) : Type 0 where
  pub moved : List Moved
  pub went : GoOn moves moves' moved
  pub left : (i : ℕ) → IsLeft i moved (left_of (ports i)) (left_of (ports' i))

-- the port may still be read
abbrev pub IsStillRead : Option Port → Type 0
IsStillRead port = (port' : Port) × ((port ≡ Some port') × (may_be_read port' ≡ true))

-- as many bytes are left as before, and it may still be written
abbrev pub IsStillWritten : Port → Option Port → Type 0
IsStillWritten before port = (port' : Port) × ((port ≡ Some port') × ((may_be_written port' ≡ true) × (port'.left ≡ before.left)))

-- the same, where these links had a turn: who may be read was asked for more, and who may be written was offered what was left, or had none
pub record Asks (turns : List ℕ) (moves moves' : Option (List Moved)) (ports ports' : ℕ → Option Port) : Type 0 where
  pub moved : List Moved
  pub went : GoOn moves moves' moved
  pub left : (i : ℕ) → IsLeft i moved (left_of (ports i)) (left_of (ports' i))
  pub ended : (i : ℕ) → unfed_of (ports i) ≡ None → unfed_of (ports' i) ≡ None
  pub offered : (i : ℕ) (port : Port) → ports i ≡ Some port → may_be_written port ≡ true → IsOffered i moved port ⊎ (IsStillWritten port (ports' i) × (stands_in i turns ≡ false))
  pub asked : (i : ℕ) (port : Port) → ports i ≡ Some port → may_be_read port ≡ true → IsServed i moved (ports' i) ⊎ (IsStillRead (ports' i) × (stands_in i turns ≡ false))

-- over a round: what is left for each link is what it left when it was offered it. Each link that has a turn and may be written was offered what
-- was left from before; and each that has one and may be read was asked for more, or was offered as much as is written in a turn, or isn't
-- read any more
pub record AsksAll (turns : List ℕ) (moves moves' : Option (List Moved)) (ports ports' : ℕ → Option Port) : Type 0 where
  pub moved : List Moved
  pub went : GoOn moves moves' moved
  pub left : (i : ℕ) → IsLeft i moved (left_of (ports i)) (left_of (ports' i))
  pub offered : (i : ℕ) (port : Port) → stands_in i turns ≡ true → ports i ≡ Some port → may_be_written port ≡ true → IsOffered i moved port
  pub asked : (i : ℕ) (port : Port) → stands_in i turns ≡ true → ports i ≡ Some port → may_be_read port ≡ true → IsServed i moved (ports' i)

-- nothing of the port changes but what is left for its link; or bytes for it are dropped, and it isn't read any more
abbrev pub KeepsAllButLeft : Port → Port → Type 0
KeepsAllButLeft port port' = (port' ≡ port) ⊎ (((bytes : List ℕ) × (port' ≡ record port { left = Some bytes })) ⊎ ((port'.left ≡ None) × (is_some port'.ending ≡ true)))
