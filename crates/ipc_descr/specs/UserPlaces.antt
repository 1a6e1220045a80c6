-- Whose the charges are.
use Rattle.std.specs.Prelude.{◌≡◌, ℕ, List, map}
use Rattle.ipc_descr.specs.declared.charges.Charge.{Charge}

-- these are the user IDs of the charges, in their order
abbrev pub AreOfCharges : List ℕ → List Charge → Type 0
AreOfCharges ids charges = ids ≡ map (λ charge. charge.uid.0) charges
