-- Records are stepped as they are read.
use Rattle.std.proofs.Common.{◌≡◌, ℕ, ◌+◌, List, [], ◌∷◌, ◌++◌, length, None, Result, Ok, Err, refl, ap, ◌∙◌, subst}
use Rattle.std.proofs.lemmas.List.{length-append}
use Rattle.ipc_terms.specs.declared.record.Record.{Record}
use Rattle.ipc_policy.specs.declared.config.Config.{Config}
use Rattle.ipc_policy.specs.Decides.History.{History}
use Rattle.ipc_history.specs.declared.fault.HistoryFault.{HistoryFault}
use Rattle.ipc_history.specs.declared.fault.HistoryFault.TheVariants as fault
use Rattle.ipc_history.specs.Files.{IsNext, IsNextIf, IsNoHead, IsNoRecord, IsOfReader, Stand, Ends}
use Rattle.ipc_history.specs.Incoming.{Incoming, Reads}
use Rattle.ipc_history.specs.Pasts.{PastView, IsNotStepped}
use Rattle.ipc_history.specs.Replays.{Continues}
use Rattle.ipc_history.proofs.GrowLemmas.{stand_open}
use Rattle.ipc_history.proofs.StreamLemmas.{ReadThen, IsOpen, read_then, read_as}

-- ---- why records end

-- where a read or memory failed nothing is said of the bytes
pub reader_no_record : (place : ℕ) (f : HistoryFault) → IsOfReader f → (bytes : List ℕ) → IsNoRecord place f bytes
reader_no_record place fault.NoHead why bytes = absurd why
reader_no_record place (fault.Head f) why bytes = absurd why
reader_no_record place (fault.BadConfig field) why bytes = absurd why
reader_no_record place fault.OtherUsers why bytes = absurd why
reader_no_record place fault.OtherLimits why bytes = absurd why
reader_no_record place fault.OtherRetelling why bytes = absurd why
reader_no_record place (fault.OtherPlace first) why bytes = absurd why
reader_no_record place (fault.Record at f) why bytes = absurd why
reader_no_record place (fault.Differs at) why bytes = absurd why
reader_no_record place fault.Read why bytes = tt
reader_no_record place fault.NoMemory why bytes = tt

pub reader_no_head : (f : HistoryFault) → IsOfReader f → (bytes : List ℕ) → IsNoHead f bytes
reader_no_head fault.NoHead why bytes = absurd why
reader_no_head (fault.Head f) why bytes = absurd why
reader_no_head (fault.BadConfig field) why bytes = absurd why
reader_no_head fault.OtherUsers why bytes = absurd why
reader_no_head fault.OtherLimits why bytes = absurd why
reader_no_head fault.OtherRetelling why bytes = absurd why
reader_no_head (fault.OtherPlace first) why bytes = absurd why
reader_no_head (fault.Record at f) why bytes = absurd why
reader_no_head (fault.Differs at) why bytes = absurd why
reader_no_head fault.Read why bytes = tt
reader_no_head fault.NoMemory why bytes = tt

-- where no record stands, the records end there
pub no_record_ends : (c : Config) (h : History) (f : HistoryFault) (rest left : List ℕ) → IsNoRecord (length h) f rest → Ends c h (Err f) rest left
no_record_ends c h fault.NoHead rest left none = none
no_record_ends c h (fault.Head f) rest left none = none
no_record_ends c h (fault.BadConfig field) rest left none = none
no_record_ends c h fault.OtherUsers rest left none = none
no_record_ends c h fault.OtherLimits rest left none = none
no_record_ends c h fault.OtherRetelling rest left none = none
no_record_ends c h (fault.OtherPlace place) rest left none = none
no_record_ends c h (fault.Record place f) rest left none = none
no_record_ends c h (fault.Differs place) rest left none = absurd none
no_record_ends c h fault.Read rest left none = none
no_record_ends c h fault.NoMemory rest left none = none

-- and where one stands that isn't stepped
pub unstepped_ends : (c : Config) (h : History) (r : Record) (f : HistoryFault) (rest left : List ℕ) → IsNext (length h) r rest left → IsNotStepped c h r f → Ends c h (Err f) rest left
unstepped_ends c h r fault.NoHead rest left next why = absurd why
unstepped_ends c h r (fault.Head f) rest left next why = absurd why
unstepped_ends c h r (fault.BadConfig field) rest left next why = absurd why
unstepped_ends c h r fault.OtherUsers rest left next why = absurd why
unstepped_ends c h r fault.OtherLimits rest left next why = absurd why
unstepped_ends c h r fault.OtherRetelling rest left next why = absurd why
unstepped_ends c h r (fault.OtherPlace place) rest left next why = absurd why
unstepped_ends c h r (fault.Record place f) rest left next why = absurd why
unstepped_ends c h r (fault.Differs place) rest left next (is, other) = (is, (r, left, next, other))
unstepped_ends c h r fault.Read rest left next why = absurd why
unstepped_ends c h r fault.NoMemory rest left next why = tt

-- ---- records that were stepped

-- they stand in front of the bytes, each at its place behind those of the past
pub record Stepped (past longer : PastView) (bytes rest : List ℕ) : Type 0 where
  pub config_is : longer.config ≡ past.config
  pub retelling_is : longer.retelling ≡ past.retelling
  pub read : List Record
  pub history_is : longer.history ≡ read ++ past.history
  pub stand : Stand (length past.history) read bytes rest

pub none_stepped : (past : PastView) (bytes : List ℕ) → Stepped past past bytes bytes
none_stepped past bytes = record { config_is = refl; retelling_is = refl; read = []; history_is = refl; stand = refl }

pub stepped_open : (past longer : PastView) → IsOpen (Stepped past longer)
stepped_open past longer bytes rest more s =
    record { config_is = s.config_is; retelling_is = s.retelling_is; read = s.read; history_is = s.history_is; stand = stand_open (length past.history) s.read bytes rest more s.stand }

-- one more
pub one_more : (past longer next : PastView) (r : Record) (bytes rest : List ℕ) → next ≡ record longer { history = r ∷ longer.history }
    → ReadThen (Stepped past longer) (IsNext (length longer.history) r) bytes rest → Stepped past next bytes rest
one_more past longer next r bytes rest is (between, s, found) =
    let place : length longer.history ≡ length s.read + length past.history = ap length s.history_is ∙ length-append s.read past.history in
    rw is (record {
      config_is = s.config_is;
      retelling_is = s.retelling_is;
      read = r ∷ s.read;
      history_is = ap (λ (h : List Record). r ∷ h) s.history_is;
      stand = (between, s.stand, subst (λ (n : ℕ). IsNext n r between rest) place found);
    })

-- they end
pub stepped_ends : (past longer : PastView) (result : Result Unit HistoryFault) (bytes left : List ℕ)
    → ReadThen (Stepped past longer) (Ends longer.config longer.history result) bytes left → Continues past longer result bytes left
stepped_ends past longer result bytes left (rest, s, ends) =
    record { config_is = s.config_is; retelling_is = s.retelling_is; read = s.read; history_is = s.history_is; rest = rest; stand = s.stand; ends = ends }

-- ---- the same, of a reader

pub steps_more : (past longer next : PastView) (r : Record) (a b c : Incoming) → next ≡ record longer { history = r ∷ longer.history }
    → Reads (Stepped past longer) a b → Reads (IsNext (length longer.history) r) b c → Reads (Stepped past next) a c
steps_more past longer next r a b c is stepped found =
    read_as (ReadThen (Stepped past longer) (IsNext (length longer.history) r)) (Stepped past next)
    (λ bytes rest x. one_more past longer next r bytes rest is x)
    a c (read_then (Stepped past longer) (IsNext (length longer.history) r) (stepped_open past longer) a b c stepped found)

pub steps_end : (past longer : PastView) (result : Result Unit HistoryFault) (a b c : Incoming)
    → Reads (Stepped past longer) a b → Reads (Ends longer.config longer.history result) b c → Reads (Continues past longer result) a c
steps_end past longer result a b c stepped ends =
    read_as (ReadThen (Stepped past longer) (Ends longer.config longer.history result)) (Continues past longer result)
    (λ bytes left x. stepped_ends past longer result bytes left x)
    a c (read_then (Stepped past longer) (Ends longer.config longer.history result) (stepped_open past longer) a b c stepped ends)

-- they end where the bytes do
pub steps_to_end : (past longer : PastView) (a b c : Incoming)
    → Reads (Stepped past longer) a b → Reads (IsNextIf (length longer.history) None) b c → Reads (Continues past longer (Ok tt)) a c
steps_to_end past longer a b c stepped none = steps_end past longer (Ok tt) a b c stepped none

-- or a fault is there
pub steps_to_fault : (past longer : PastView) (f : HistoryFault) (a b c : Incoming)
    → Reads (Stepped past longer) a b → Reads (λ bytes rest. IsNoRecord (length longer.history) f bytes) b c → Reads (Continues past longer (Err f)) a c
steps_to_fault past longer f a b c stepped none =
    steps_end past longer (Err f) a b c stepped
    (read_as (λ bytes rest. IsNoRecord (length longer.history) f bytes) (Ends longer.config longer.history (Err f))
    (λ bytes left x. no_record_ends longer.config longer.history f bytes left x) b c none)

-- or a record that isn't stepped
pub steps_to_other : (past longer : PastView) (r : Record) (f : HistoryFault) (a b c : Incoming) → IsNotStepped longer.config longer.history r f
    → Reads (Stepped past longer) a b → Reads (IsNext (length longer.history) r) b c → Reads (Continues past longer (Err f)) a c
steps_to_other past longer r f a b c why stepped found =
    steps_end past longer (Err f) a b c stepped
    (read_as (IsNext (length longer.history) r) (Ends longer.config longer.history (Err f))
    (λ bytes left x. unstepped_ends longer.config longer.history r f bytes left x why) b c found)
