-- How the words that every part of the server shares are spelled as fields.
use Rattle.std.specs.Prelude.{ℕ, List, Option, Some, None, true, nat_lt, ◌==◌, ◌&&◌, if◌then◌else◌}
use Rattle.std.specs.Int.RustNames.{bit_and}
use Rattle.ipc_terms.specs.declared.call.Access.{Access}
use Rattle.ipc_terms.specs.declared.call.Access.TheVariants as access
use Rattle.ipc_terms.specs.declared.call.Attributes.{Attributes}
use Rattle.ipc_terms.specs.declared.flags.OpenFlags.{OpenFlags}
use Rattle.ipc_terms.specs.declared.ids.Sid.{Sid}
use Rattle.ipc_terms.specs.declared.ids.Desc.{Desc}
use Rattle.ipc_terms.specs.declared.ids.Uid.{Uid}
use Rattle.ipc_terms.specs.declared.ids.Gid.{Gid}
use Rattle.ipc_terms.specs.declared.ids.Mode.{Mode}
use Rattle.ipc_terms.specs.declared.ids.Family.{Family}
use Rattle.ipc_terms.specs.declared.ids.Family.TheVariants as family
use Rattle.ipc_terms.specs.declared.ids.Target.{Target}
use Rattle.ipc_terms.specs.declared.ids.Target.TheVariants as target
use Rattle.ipc_fields.specs.Field.{Field, byte, u16, u32, u64, text, coded, seen, optional, ◌⊗◌}

abbrev pub sid_field : Field Sid
sid_field = seen (λ n. record { 0 = n }) (λ s. s.0) u64

abbrev pub desc_field : Field Desc
desc_field = seen (λ n. record { 0 = n }) (λ d. d.0) u64

abbrev pub uid_field : Field Uid
uid_field = seen (λ n. record { 0 = n }) (λ u. u.0) u32

abbrev pub gid_field : Field Gid
gid_field = seen (λ n. record { 0 = n }) (λ g. g.0) u32

abbrev pub mode_field : Field Mode
mode_field = seen (λ n. record { 0 = n }) (λ m. m.0) u16

-- 1 for reading, 2 for writing, 3 for both
abbrev pub access_code : Access → ℕ
access_code access.Read = 1
access_code access.Write = 2
access_code access.Both = 3

abbrev pub access_of : ℕ → Option Access
access_of b = if b == 1 then Some access.Read else if b == 2 then Some access.Write else if b == 3 then Some access.Both else None

unfoldable pub access_field : Field Access
access_field = coded access_code (λ a. true) access_of byte

-- 1 for queues, 2 for semaphores
abbrev pub family_code : Family → ℕ
family_code family.Mq = 1
family_code family.Sem = 2

abbrev pub family_of : ℕ → Option Family
family_of b = if b == 1 then Some family.Mq else if b == 2 then Some family.Sem else None

unfoldable pub family_field : Field Family
family_field = coded family_code (λ f. true) family_of byte

-- the flags without the bits that mean nothing; mask has those that mean something
abbrev pub masked : ℕ → OpenFlags → OpenFlags
masked mask flags = record { 0 = bit_and flags.0 mask }

-- bits that mean nothing are not written, and may not be read
unfoldable pub flags_field : ℕ → Field OpenFlags
flags_field mask = coded (λ f. bit_and f.0 mask) (λ f. (bit_and f.0 mask == f.0) && nat_lt f.0 256) (λ b. if bit_and b mask == b then Some (record { 0 = b }) else None) byte

unfoldable pub attributes_field : Field Attributes
attributes_field = seen (λ x. record { maxmsg = x.0; msgsize = x.1 }) (λ a. (a.maxmsg, a.msgsize)) (u32 ⊗ u32)

-- a family, and a name in it; without one its directory
abbrev pub target_of : Family × Option (List ℕ) → Target
target_of (f, None) = target.Dir f
target_of (f, Some name) = target.Name f name

abbrev pub target_parts : Target → Family × Option (List ℕ)
target_parts (target.Dir f) = (f, None)
target_parts (target.Name f name) = (f, Some name)

unfoldable pub target_field : Field Target
target_field = seen target_of target_parts (family_field ⊗ optional text)
