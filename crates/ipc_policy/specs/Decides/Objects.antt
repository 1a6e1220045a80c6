-- What an object keeps from its creation on, and what decides who may do what with it: its owner, its group and its
-- mode, each given by the newest event that gives it.
use Rattle.std.specs.Prelude.{Bool, false, ℕ, ◌%◌, ◌-◌, ◌==◌, min, List, Option, Some, None, if◌then◌else◌, unwrap_or, option_and_then, bit_and}
use Rattle.std.specs.Option.{option_or, option_map}
use Rattle.ipc_terms.specs.Names.{same_family}
use Rattle.ipc_terms.specs.declared.ids.Uid.{Uid}
use Rattle.ipc_terms.specs.declared.ids.Gid.{Gid}
use Rattle.ipc_terms.specs.declared.ids.Mode.{Mode}
use Rattle.ipc_terms.specs.declared.ids.Family.{Family}
use Rattle.ipc_terms.specs.declared.ids.Target.{Target}
use Rattle.ipc_terms.specs.declared.ids.Target.TheVariants.{Dir, Name}
use Rattle.ipc_terms.specs.declared.call.Attributes.{Attributes}
use Rattle.ipc_terms.specs.declared.call.Call.TheVariants.{Chmod, Chown}
use Rattle.ipc_terms.specs.declared.object.Object.{Object}
use Rattle.ipc_terms.specs.declared.object.Kind.{Kind}
use Rattle.ipc_terms.specs.declared.object.Kind.TheVariants.{Queue, Semaphore}
use Rattle.ipc_terms.specs.declared.object.Asked.{Asked}
use Rattle.ipc_terms.specs.declared.object.Asked.TheVariants.{Queue as AskedQueue, Semaphore as AskedSemaphore}
use Rattle.ipc_terms.specs.declared.record.Event.{Event}
use Rattle.ipc_terms.specs.declared.record.Event.TheVariants.{Do}
use Rattle.ipc_access.specs.declared.class.Cred.{Cred}
use Rattle.ipc_policy.specs.declared.config.Config.{Config}
use Rattle.ipc_terms.specs.declared.facts.Facts.{Facts}
use Rattle.ipc_policy.specs.Decides.History.{History, newest, is_some_and}
use Rattle.ipc_policy.specs.Decides.Sessions.{cred, mask}
use Rattle.ipc_policy.specs.Decides.Names.{Opening, creation, creations, bound}

-- the open that creates object o
abbrev pub creation_of : ℕ → Event → History → Option Opening
creation_of o e before = if creations before == o then creation e before else None

-- without attributes, 10 messages of 8,192 bytes, or the limits where these are lower
abbrev pub attributes_of : Config → Option Attributes → Attributes
attributes_of c None = record { maxmsg = min 10 c.limits.msg_max; msgsize = min 8192 c.limits.msgsize_max }
attributes_of c (Some given) = given

-- what an open makes of what it asks
abbrev pub kind_of : Config → Asked → Kind
kind_of c (AskedQueue given) = Queue (attributes_of c given)
kind_of c (AskedSemaphore value) = Semaphore value

-- what an open fixes of the object that it creates: its creator, and what it is
abbrev pub made_by : Config → Opening → Cred → Object
made_by c asked who = record { creator = who.uid; kind = kind_of c asked.kind }

-- what the open that creates object o fixes
abbrev pub makes : Config → ℕ → Event → History → Option Object
makes c o e before = option_and_then (λ asked. option_map (made_by c asked) (cred c before asked.session.0)) (creation_of o e before)

-- what object o is, from its creation on
unfoldable pub object : Config → History → ℕ → Option Object
object c h o = newest (makes c o) h

-- the given mode's low nine bits, without the bits of the mask
abbrev pub without_mask : Mode → ℕ → Mode
without_mask mode mask' = record { 0 = bit_and (mode.0 % 512) (511 - mask') }

-- a new object is the caller's and the caller's group's, with the mode without the mask
abbrev pub first_facts : Opening → ℕ → Cred → Facts
first_facts asked mask' who = record { owner = who.uid; group = who.gid; mode = without_mask asked.mode mask' }

-- the open that creates object o gives it its first owner, group and mode
abbrev pub sets_first : Config → ℕ → Event → History → Option Facts
sets_first c o e before = option_and_then (λ asked. option_map (first_facts asked (mask before asked.session.0)) (cred c before asked.session.0)) (creation_of o e before)

-- the owner, the group and the mode that an event gives to what is meant; a chown that keeps the owner or the group says
-- nothing of it
abbrev pub owner_given : (Target → Bool) → Event → Option Uid
owner_given meant (Do sid (Chown owner group target)) = if meant target then owner else None
owner_given meant _ = None

abbrev pub group_given : (Target → Bool) → Event → Option Gid
group_given meant (Do sid (Chown owner group target)) = if meant target then group else None
group_given meant _ = None

abbrev pub mode_given : (Target → Bool) → Event → Option Mode
mode_given meant (Do sid (Chmod mode target)) = if meant target then Some mode else None
mode_given meant _ = None

-- the target is a name that is bound to object o, by what the names are bound to
abbrev pub means_object : (Family → List ℕ → Option ℕ) → ℕ → Target → Bool
means_object bound o (Dir family) = false
means_object bound o (Name family name) = is_some_and (λ n. n == o) (bound family name)

-- the target is the directory of the family
abbrev pub means_directory : Family → Target → Bool
means_directory family (Dir f) = same_family f family
means_directory family (Name f name) = false

-- an object takes octal 0777 of a mode, a directory octal 01777
abbrev pub object_bits : Mode → Mode
object_bits mode = record { 0 = mode.0 % 512 }

abbrev pub directory_bits : Mode → Mode
directory_bits mode = record { 0 = mode.0 % 1024 }

-- what sets the owner of object o, its group, and its mode: its creation, and a change of a name that is bound to it then
abbrev pub sets_owner : Config → ℕ → Event → History → Option Uid
sets_owner c o e before = option_or (owner_given (means_object (bound before) o) e) (option_map (λ at. at.owner) (sets_first c o e before))

abbrev pub sets_group : Config → ℕ → Event → History → Option Gid
sets_group c o e before = option_or (group_given (means_object (bound before) o) e) (option_map (λ at. at.group) (sets_first c o e before))

abbrev pub sets_mode : Config → ℕ → Event → History → Option Mode
sets_mode c o e before = option_or (option_map object_bits (mode_given (means_object (bound before) o) e)) (option_map (λ at. at.mode) (sets_first c o e before))

-- the owner of object o
unfoldable pub owner : Config → History → ℕ → Option Uid
owner c h o = newest (sets_owner c o) h

-- the group of object o
unfoldable pub group : Config → History → ℕ → Option Gid
group c h o = newest (sets_group c o) h

-- the mode of object o
unfoldable pub mode : Config → History → ℕ → Option Mode
mode c h o = newest (sets_mode c o) h

-- the three together, where there are all
abbrev pub together : Option Uid → Option Gid → Option Mode → Option Facts
together (Some owner') (Some group') (Some mode') = Some (record { owner = owner'; group = group'; mode = mode' })
together _ _ _ = None

-- the owner, group and mode of object o
unfoldable pub facts : Config → History → ℕ → Option Facts
facts c h o = together (owner c h o) (group c h o) (mode c h o)

-- what sets the owner of a family's directory, its group, and its mode: a change that means it
abbrev pub sets_directory_owner : Family → Event → History → Option Uid
sets_directory_owner family e before = owner_given (means_directory family) e

abbrev pub sets_directory_group : Family → Event → History → Option Gid
sets_directory_group family e before = group_given (means_directory family) e

abbrev pub sets_directory_mode : Family → Event → History → Option Mode
sets_directory_mode family e before = option_map directory_bits (mode_given (means_directory family) e)

-- the owner of a family's directory; at the start user 0
unfoldable pub directory_owner : History → Family → Uid
directory_owner h family = unwrap_or (newest (sets_directory_owner family) h) (record { 0 = 0 })

-- the group of a family's directory; at the start group 0
unfoldable pub directory_group : History → Family → Gid
directory_group h family = unwrap_or (newest (sets_directory_group family) h) (record { 0 = 0 })

-- the mode of a family's directory; at the start octal 1777
unfoldable pub directory_mode : History → Family → Mode
directory_mode h family = unwrap_or (newest (sets_directory_mode family) h) (record { 0 = 1023 })

-- the owner, group and mode of a family's directory
unfoldable pub directory : History → Family → Facts
directory h family = record { owner = directory_owner h family; group = directory_group h family; mode = directory_mode h family }

-- the owner, group and mode of a directory, or of the object to which a name is bound
abbrev pub facts_meant : Config → History → Target → Option Facts
facts_meant c h (Dir family) = Some (directory h family)
facts_meant c h (Name family name) = option_and_then (facts c h) (bound h family name)
