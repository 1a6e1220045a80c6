-- The families of a page.
use Rattle.std.specs.Prelude.{ℕ, List, [], ◌∷◌, codes}
use Rattle.ipc_metrics.specs.declared.families.Family.{Family as TableRow}
use Rattle.ipc_metrics.specs.declared.families.Kind.{Kind}
use Rattle.ipc_metrics.specs.declared.families.Kind.TheVariants.{Gauge, Counter}
use Rattle.ipc_metrics.specs.declared.families.Samples.{Samples}
use Rattle.ipc_metrics.specs.declared.families.Samples.TheVariants as show

-- the format's word of a kind
abbrev pub kind_word : Kind → List ℕ
kind_word Gauge = codes "gauge"
kind_word Counter = codes "counter"

-- a family: its name, its help, how its samples change, and which numbers they show
pub record Family : Type 0 where
  pub name : List ℕ
  pub help : List ℕ
  pub kind : Kind
  pub samples : Samples

abbrev pub family : List ℕ → List ℕ → Kind → Samples → Family
family name help kind samples = record { name = name; help = help; kind = kind; samples = samples }

-- all families, in the order of the page
unfoldable pub families : List Family
families =
    family (codes "mqserve_sessions") (codes "Sessions that live.") Gauge show.Sessions
    ∷ family (codes "mqserve_connections") (codes "Connections that are open.") Gauge show.Connections
    ∷ family (codes "mqserve_objects") (codes "Queues (mq) and semaphores (sem) that exist.") Gauge show.Objects
    ∷ family (codes "mqserve_messages") (codes "Messages that stand in queues.") Gauge show.Messages
    ∷ family (codes "mqserve_message_bytes") (codes "Bytes of the messages that stand in queues.") Gauge show.MessageBytes
    ∷ family (codes "mqserve_charged_bytes") (codes "Bytes that queues take of their creators' limits.") Gauge show.ChargedBytes
    ∷ family (codes "mqserve_records_kept") (codes "Records of the trail that are kept in memory.") Gauge show.Kept
    ∷ family (codes "mqserve_record_bytes") (codes "Bytes of the records that are kept in memory.") Gauge show.KeptBytes
    ∷ family (codes "mqserve_records_total") (codes "Records that were ever made.") Counter show.Recorded
    ∷ family (codes "mqserve_accepted_total") (codes "Events that were accepted.") Counter show.Accepted
    ∷ family (codes "mqserve_refused_total") (codes "Events that were refused, by the rule.") Counter show.Refused
    ∷ family (codes "mqserve_rounds_total") (codes "Rounds of the server's loop.") Counter show.Rounds
    ∷ family (codes "process_cpu_seconds_total") (codes "Seconds of processor time, in user and in system mode.") Counter show.ProcessorSeconds
    ∷ family (codes "process_resident_memory_bytes") (codes "Bytes of memory that are resident.") Gauge show.Resident
    ∷ []

-- a row of the code's table
abbrev pub family_of_row : TableRow → Family
family_of_row row = family row.name.now row.help.now row.kind row.samples
