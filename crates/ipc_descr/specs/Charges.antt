-- How many bytes each user's queues take, and how many they may: a list with one charge a user.
use Rattle.std.specs.Prelude.{Bool, ℕ, ◌+◌, ◌-◌, ◌==◌, List, find, Option}
use Rattle.std.specs.Option.{option_map_or}
use Rattle.ipc_terms.specs.Lists.{changed_first}
use Rattle.ipc_access.specs.declared.users.User.{User}
use Rattle.ipc_descr.specs.declared.charges.Charge.{Charge}

-- the charge of a user who has no queues
abbrev pub uncharged : User → Charge
uncharged user = record { uid = user.cred.uid; limit = user.cred.limit; used = 0 }

-- whether the charge is user u's
abbrev pub is_user : ℕ → Charge → Bool
is_user u charge = charge.uid.0 == u

-- the charge of user u
abbrev pub charge_of : List Charge → ℕ → Option Charge
charge_of charges u = find (is_user u) charges

-- how many bytes user u's queues take; those of no user take none
abbrev pub used_of : List Charge → ℕ → ℕ
used_of charges u = option_map_or (λ charge. charge.used) (charge_of charges u) 0

-- how many bytes user u's queues may take
abbrev pub limit_of : List Charge → ℕ → ℕ
limit_of charges u = option_map_or (λ charge. charge.limit) (charge_of charges u) 0

-- the charge with another limit
abbrev pub limited : ℕ → Charge → Charge
limited bytes charge = record charge { limit = bytes }

-- the charge with so many bytes more
abbrev pub raised : ℕ → Charge → Charge
raised bytes charge = record charge { used = charge.used + bytes }

-- the charge with so many bytes less
abbrev pub lowered : ℕ → Charge → Charge
lowered bytes charge = record charge { used = charge.used - bytes }

-- user u has another limit
abbrev pub with_limit : List Charge → ℕ → ℕ → List Charge
with_limit charges u bytes = changed_first (is_user u) (limited bytes) charges

-- user u's queues take so many bytes more
abbrev pub with_added : List Charge → ℕ → ℕ → List Charge
with_added charges u bytes = changed_first (is_user u) (raised bytes) charges

-- user u's queues take so many bytes less
abbrev pub with_less : List Charge → ℕ → ℕ → List Charge
with_less charges u bytes = changed_first (is_user u) (lowered bytes) charges
