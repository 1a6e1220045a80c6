-- The call that a command means.
use Rattle.std.specs.Prelude.{⊤, ◌≡◌, ℕ, ◌+◌, ◌-◌, ◌^◌, List, [], ◌∷◌, Option, Some, None, Result, Ok, Err, if◌then◌else◌, unwrap_or, codes}
use Rattle.std.specs.Option.{option_map}
use Rattle.clap.specs.Walk.{Row}
use Rattle.clap.specs.Simple.{matches_of}
use Rattle.ipc_terms.specs.declared.call.Attributes.{Attributes}
use Rattle.ipc_terms.specs.declared.call.Call.{Call}
use Rattle.ipc_terms.specs.declared.call.Call.TheVariants as call
use Rattle.ipc_terms.specs.declared.call.QueueOpen.{QueueOpen}
use Rattle.ipc_terms.specs.declared.call.SemaphoreOpen.{SemaphoreOpen}
use Rattle.ipc_terms.specs.declared.flags.OpenFlags.{OpenFlags}
use Rattle.ipc_terms.specs.declared.ids.Family.{Family}
use Rattle.ipc_terms.specs.declared.ids.Target.{Target}
use Rattle.ipc_terms.specs.declared.ids.Target.TheVariants as target
use Rattle.ipc_words.specs.declared.calls.Manner.{Manner}
use Rattle.ipc_terms.specs.declared.op.CallOp.{CallOp}
use Rattle.ipc_terms.specs.declared.op.CallOp.TheVariants.{Umask, MqOpen, MqClose, MqSend, MqReceive, MqTimedSend, MqTimedReceive, MqGetattr, MqSetattr, MqNotify, MqGive, MqUnlink, SemOpen, SemClose, SemUnlink, SemPost, SemWait, SemTryWait, SemTimedWait, SemGetvalue, ListNames, StatName, Chmod, Chown, SetLimit, Interrupt, Audit}
use Rattle.ipc_words.specs.declared.faults.WordFault.{WordFault}
use Rattle.ipc_words.specs.declared.faults.WordFault.TheVariants.{Usage, NoMemory}
use Rattle.ipc_words.specs.Grammar.{Form, app_of_form, form_of_word}
use Rattle.ipc_words.specs.Numbers.{decimal_within, octal_mode}
use Rattle.ipc_words.specs.Parses.{IsParsed}
use Rattle.ipc_words.specs.Readings.{Meaning, Reads, ◌>>=◌, deadline_at, session_at, description_at, is_given, option_at, value_at}
use Rattle.ipc_words.specs.Values.{access_of_word, bytes_of_word, family_of_word, id_of_word, nonblock_of_word, notification_of_word}

-- 1 for CREATE, 2 for EXCLUSIVE and 4 for NONBLOCK
unfoldable pub flags_of_rows : List Row → OpenFlags
flags_of_rows rows = record {
  0 = (if is_given (codes "create") rows then 1 else 0)
      + (if is_given (codes "excl") rows then 2 else 0)
      + (if is_given (codes "nonblock") rows then 4 else 0);
}

-- both counts or neither
unfoldable pub attributes_of_counts : Option ℕ → Option ℕ → Meaning (Option Attributes)
attributes_of_counts None None = Ok None
attributes_of_counts (Some maxmsg) (Some msgsize) = Ok (Some (record { maxmsg = maxmsg; msgsize = msgsize }))
attributes_of_counts None (Some msgsize) = Err (codes "attributes")
attributes_of_counts (Some maxmsg) None = Err (codes "attributes")

unfoldable pub attributes_of_rows : List Row → Meaning (Option Attributes)
attributes_of_rows rows =
    option_at (decimal_within (2 ^ 32 - 1)) (codes "maxmsg") rows >>= λ maxmsg.
    option_at (decimal_within (2 ^ 32 - 1)) (codes "msgsize") rows >>= λ msgsize.
    attributes_of_counts maxmsg msgsize

-- a name in a family; without one the family's directory
abbrev pub target_in : Family → Option (List ℕ) → Target
target_in family None = target.Dir family
target_in family (Some name) = target.Name family name

unfoldable pub target_of_rows : List Row → Meaning Target
target_of_rows rows =
    value_at family_of_word (codes "family") rows >>= λ family.
    option_at bytes_of_word (codes "name") rows >>= λ name.
    Ok (target_in family name)

-- a length, a priority or a place is a u32
abbrev pub count_at : List ℕ → List Row → Meaning ℕ
count_at = value_at (decimal_within (2 ^ 32 - 1))

-- what an open says beside its name and flags: 0600 where no mode is given
unfoldable pub manner_of_rows : List Row → Meaning Manner
manner_of_rows rows =
    value_at access_of_word (codes "access") rows >>= λ access.
    option_at octal_mode (codes "mode") rows >>= λ mode.
    attributes_of_rows rows >>= λ attributes.
    Ok (record { access = access; mode = unwrap_or mode (record { 0 = 384 }); attributes = attributes })

unfoldable pub open_of_rows : List Row → Meaning QueueOpen
open_of_rows rows =
    value_at bytes_of_word (codes "name") rows >>= λ name.
    manner_of_rows rows >>= λ manner.
    Ok (record {
      name = name;
      access = manner.access;
      flags = flags_of_rows rows;
      mode = manner.mode;
      attributes = manner.attributes;
    })

-- 0600 where no mode is given, and 0 where no value is
unfoldable pub semaphore_open_of_rows : List Row → Meaning SemaphoreOpen
semaphore_open_of_rows rows =
    value_at bytes_of_word (codes "name") rows >>= λ name.
    option_at octal_mode (codes "mode") rows >>= λ mode.
    option_at (decimal_within (2 ^ 32 - 1)) (codes "value") rows >>= λ value.
    Ok (record {
      name = name;
      flags = flags_of_rows rows;
      mode = unwrap_or mode (record { 0 = 384 });
      value = unwrap_or value 0;
    })

-- The meaning of each command's rows. The arguments are read in this order, and the first that doesn't read is named.
unfoldable pub meaning_of : CallOp → List Row → Meaning Call
meaning_of Umask rows = value_at octal_mode (codes "octal") rows >>= λ mask. Ok (call.Umask mask)
meaning_of MqOpen rows = open_of_rows rows >>= λ asked. Ok (call.MqOpen asked)
meaning_of MqClose rows = description_at rows >>= λ desc. Ok (call.MqClose desc)
meaning_of MqSend rows =
    description_at rows >>= λ desc.
    count_at (codes "prio") rows >>= λ priority.
    value_at bytes_of_word (codes "bytes") rows >>= λ bytes.
    Ok (call.MqSend desc priority bytes)
meaning_of MqReceive rows =
    description_at rows >>= λ desc.
    count_at (codes "len") rows >>= λ length.
    Ok (call.MqReceive desc length)
meaning_of MqTimedSend rows =
    description_at rows >>= λ desc.
    count_at (codes "prio") rows >>= λ priority.
    deadline_at rows >>= λ deadline.
    value_at bytes_of_word (codes "bytes") rows >>= λ bytes.
    Ok (call.MqTimedSend desc priority deadline bytes)
meaning_of MqTimedReceive rows =
    description_at rows >>= λ desc.
    count_at (codes "len") rows >>= λ length.
    deadline_at rows >>= λ deadline.
    Ok (call.MqTimedReceive desc length deadline)
meaning_of MqGetattr rows = description_at rows >>= λ desc. Ok (call.MqGetattr desc)
meaning_of MqSetattr rows =
    description_at rows >>= λ desc.
    value_at nonblock_of_word (codes "how") rows >>= λ nonblock.
    Ok (call.MqSetattr desc nonblock)
meaning_of MqNotify rows =
    description_at rows >>= λ desc.
    value_at notification_of_word (codes "how") rows >>= λ on.
    Ok (call.MqNotify desc on)
meaning_of MqGive rows =
    description_at rows >>= λ desc.
    session_at rows >>= λ taker.
    Ok (call.MqGive desc taker)
meaning_of MqUnlink rows = value_at bytes_of_word (codes "name") rows >>= λ name. Ok (call.MqUnlink name)
meaning_of SemOpen rows = semaphore_open_of_rows rows >>= λ asked. Ok (call.SemOpen asked)
meaning_of SemClose rows = description_at rows >>= λ desc. Ok (call.SemClose desc)
meaning_of SemUnlink rows = value_at bytes_of_word (codes "name") rows >>= λ name. Ok (call.SemUnlink name)
meaning_of SemPost rows = description_at rows >>= λ desc. Ok (call.SemPost desc)
meaning_of SemWait rows = description_at rows >>= λ desc. Ok (call.SemWait desc)
meaning_of SemTryWait rows = description_at rows >>= λ desc. Ok (call.SemTryWait desc)
meaning_of SemTimedWait rows =
    description_at rows >>= λ desc.
    deadline_at rows >>= λ deadline.
    Ok (call.SemTimedWait desc deadline)
meaning_of SemGetvalue rows = description_at rows >>= λ desc. Ok (call.SemGetvalue desc)
meaning_of ListNames rows =
    value_at family_of_word (codes "family") rows >>= λ family.
    count_at (codes "start") rows >>= λ start.
    value_at (decimal_within (2 ^ 16 - 1)) (codes "count") rows >>= λ count.
    Ok (call.ListNames family start count)
meaning_of StatName rows = target_of_rows rows >>= λ target. Ok (call.StatName target)
meaning_of Chmod rows =
    value_at octal_mode (codes "octal") rows >>= λ mode.
    target_of_rows rows >>= λ target.
    Ok (call.Chmod mode target)
meaning_of Chown rows =
    value_at id_of_word (codes "uid") rows >>= λ owner.
    value_at id_of_word (codes "gid") rows >>= λ group.
    target_of_rows rows >>= λ target.
    Ok (call.Chown (option_map (λ n. record { 0 = n }) owner) (option_map (λ n. record { 0 = n }) group) target)
meaning_of SetLimit rows =
    count_at (codes "uid") rows >>= λ uid.
    value_at (decimal_within (2 ^ 64 - 1)) (codes "bytes") rows >>= λ bytes.
    Ok (call.SetLimit (record { 0 = uid }) bytes)
meaning_of Interrupt rows = Ok call.Interrupt
meaning_of Audit rows =
    value_at (decimal_within (2 ^ 64 - 1)) (codes "start") rows >>= λ start.
    value_at (decimal_within (2 ^ 16 - 1)) (codes "count") rows >>= λ count.
    Ok (call.Audit start count)

-- ---- what words mean

-- Behind a command's word: Usage exactly where clap finds a fault, otherwise what the rows mean, or want of memory.
abbrev pub MeansBehind : Form → List (List ℕ) → Result Call WordFault → Type 0
MeansBehind form words (Err NoMemory) = ⊤
MeansBehind form words (Err Usage) = ¬ IsParsed (app_of_form form) words
MeansBehind form words result =
    IsParsed (app_of_form form) words × Reads (meaning_of form.op (matches_of (app_of_form form) words)) result

-- the same under the command that the first word names, and Usage where it names none
abbrev pub MeansUnder : Option Form → List (List ℕ) → Result Call WordFault → Type 0
MeansUnder None words result = result ≡ Err Usage
MeansUnder (Some form) words result = MeansBehind form words result

-- no words at all are Usage
abbrev pub Means : List (List ℕ) → Result Call WordFault → Type 0
Means [] result = result ≡ Err Usage
Means (word ∷ words) result = MeansUnder (form_of_word word) words result
