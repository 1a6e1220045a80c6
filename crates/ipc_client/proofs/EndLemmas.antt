-- How a session ends, by how its hello and its lines did.
use Rattle.std.proofs.Common.{◌≡◌, ℕ, suc, Bool, true, false, ◌&&◌, List, [], ◌++◌, Option, None, Some, Result, Ok, Err, refl, sym, subst, append-nil}
use Rattle.std.specs.Prelude.{IfOk}
use Rattle.std.specs.Io.KnownBytes.{Consumes}
use Rattle.ipc_terms.specs.declared.call.Answer.{Answer}
use Rattle.ipc_terms.specs.declared.ids.Desc.{Desc}
use Rattle.ipc_client.specs.Connections.{Incoming, IsNext, Reads, new_incoming}
use Rattle.ipc_client.specs.Dialogues.{AreNotices, IsAnswered, Link, NoticesStand, Talks, Then, is_notice}
use Rattle.ipc_client.specs.Sessions.{ByGiven, CommandEnds, EndsBehindHello, EndsBy, HelloEnds, LineEnds, LineGoes, LinesEnd, LinesEndAt, SessionEnds, SoManyEnd, act_asked, arguments_of, is_list, name_of}
use Rattle.ipc_client.specs.Acts.{ByNameEnds}
use Rattle.ipc_client.specs.Lists.{ListEnds}
use Rattle.ipc_client.specs.declared.acts.Act.{Act}
use Rattle.ipc_client.specs.declared.fault.ClientFault.{ClientFault}
use Rattle.ipc_client.proofs.StreamLemmas.{ReadThen, notices_open, read_nothing, read_then}
use Rattle.ipc_client.proofs.TalkLemmas.{talk_as, talk_nothing, talk_then}

pub no_notice : (i : Incoming) → Reads AreNotices i i
unfolding NoticesStand
no_notice i = read_nothing AreNotices i (0, refl)

pub notice_behind : (notice : Answer) → is_notice notice ≡ true → (bytes rest : List ℕ) → ReadThen AreNotices (IsNext notice) bytes rest → AreNotices bytes rest
unfolding NoticesStand
notice_behind notice is bytes rest (between, (n, stand), next) = (suc n, (notice, between, stand, next, is))

pub one_notice_more : (a b c : Incoming) (notice : Answer) → Reads AreNotices a b → Reads (IsNext notice) b c → is_notice notice ≡ true → Reads AreNotices a c
one_notice_more a b c notice notices next is =
    let all = read_then AreNotices (IsNext notice) notices_open a b c notices next in
    (all.0, all.1, notice_behind notice is _ _ all.2)

pub answered : (a b c : Incoming) (answer : Answer) → Reads AreNotices a b → Reads (IsNext answer) b c → is_notice answer ≡ false → Reads (IsAnswered answer) a c
answered a b c answer notices next is =
    let all = read_then AreNotices (IsNext answer) notices_open a b c notices next in
    (all.0, all.1, (all.2.0, all.2.1, all.2.2, is))

-- ---- what a line asks for

pub line_listed : (last : Option Desc) (words : List (List ℕ)) (a b : Link) (result : Result Bool ClientFault) → is_list words ≡ true → IfOk result (λ is_done. Talks (ListEnds is_done) a b) → IfOk result (λ is_done. Talks (LineEnds last words last is_done) a b)
line_listed last words a b (Err fault) is talks = tt
line_listed last words a b (Ok is_done) is talks =
    subst (λ (alone : Bool). Talks (LineGoes alone (act_asked words) last words last is_done) a b) (sym is) (talk_as (ListEnds is_done) (LineGoes true (act_asked words) last words last is_done) a b (λ sent bytes rest it. (it, refl)) talks)

pub line_by_name : (last : Option Desc) (words : List (List ℕ)) (act : Act) (name : List ℕ) (arguments : List (List ℕ)) (a b : Link) (result : Result Bool ClientFault) → is_list words ≡ false → act_asked words ≡ Some act → name ≡ name_of words → arguments ≡ arguments_of words
    → IfOk result (λ is_done. Talks (ByNameEnds act name arguments is_done) a b) → IfOk result (λ is_done. Talks (LineEnds last words last is_done) a b)
line_by_name last words act name arguments a b (Err fault) not_list asked named behind talks = tt
line_by_name last words act name arguments a b (Ok is_done) not_list asked named behind talks =
    let by_words : Talks (ByNameEnds act (name_of words) (arguments_of words) is_done) a b =
    subst (λ (rest : List (List ℕ)). Talks (ByNameEnds act (name_of words) rest is_done) a b) behind (subst (λ (n : List ℕ). Talks (ByNameEnds act n arguments is_done) a b) named talks) in
    let goes : Talks (LineGoes false (Some act) last words last is_done) a b =
    talk_as (ByNameEnds act (name_of words) (arguments_of words) is_done) (LineGoes false (Some act) last words last is_done) a b (λ sent bytes rest it. (it, refl)) by_words in
    subst (λ (alone : Bool). Talks (LineGoes alone (act_asked words) last words last is_done) a b) (sym not_list)
    (subst (λ (act_of : Option Act). Talks (LineGoes false act_of last words last is_done) a b) (sym asked) goes)

pub line_plain : (before after : Option Desc) (words : List (List ℕ)) (a b : Link) (result : Result Bool ClientFault) → is_list words ≡ false → act_asked words ≡ None
    → IfOk result (λ is_done. Talks (CommandEnds before words after is_done) a b) → IfOk result (λ is_done. Talks (LineEnds before words after is_done) a b)
line_plain before after words a b (Err fault) not_list asked talks = tt
line_plain before after words a b (Ok is_done) not_list asked talks =
    subst (λ (alone : Bool). Talks (LineGoes alone (act_asked words) before words after is_done) a b) (sym not_list)
    (subst (λ (act_of : Option Act). Talks (LineGoes false act_of before words after is_done) a b) (sym asked) talks)

-- ---- lines

no_line_yet : (bytes : List ℕ) → LinesEndAt None true [] bytes bytes
unfolding SoManyEnd
no_line_yet bytes = (0, (refl, refl, (refl, refl)))

pub no_line : (l : Link) → Talks (LinesEndAt None true) l l
no_line l = talk_nothing (LinesEndAt None true) l no_line_yet

line_behind : (words : List (List ℕ)) (before last : Option Desc) (earlier_are_done is_done : Bool) (sent bytes rest : List ℕ)
    → Then (LinesEndAt before earlier_are_done) (LineEnds before words last is_done) sent bytes rest → LinesEndAt last (earlier_are_done && is_done) sent bytes rest
unfolding SoManyEnd
line_behind words before last earlier_are_done is_done sent bytes rest (first, second, between, parts, (n, earlier), ends) =
    (suc n, (words, before, earlier_are_done, is_done, (first, second, between, parts, earlier, ends), refl))

pub one_line_more : (a b c : Link) (words : List (List ℕ)) (before last : Option Desc) (earlier_are_done is_done : Bool)
    → Talks (LinesEndAt before earlier_are_done) a b → Talks (LineEnds before words last is_done) b c → Talks (LinesEndAt last (earlier_are_done && is_done)) a c
one_line_more a b c words before last earlier_are_done is_done earlier ends =
    talk_as (Then (LinesEndAt before earlier_are_done) (LineEnds before words last is_done)) (LinesEndAt last (earlier_are_done && is_done)) a c (line_behind words before last earlier_are_done is_done)
    (talk_then (LinesEndAt before earlier_are_done) (LineEnds before words last is_done) a b c earlier ends)

pub lines_end : (a b : Link) (last : Option Desc) (all_are_done : Bool) → Talks (LinesEndAt last all_are_done) a b → Talks (LinesEnd all_are_done) a b
lines_end a b last all_are_done talks = talk_as (LinesEndAt last all_are_done) (LinesEnd all_are_done) a b (λ sent bytes rest ends. (last, ends)) talks

-- ---- by all that is given

by_all : (P : List ℕ → Type 0) (given left : Option (List ℕ)) (came : List ℕ) → Consumes given left came → ((more : List ℕ) → P (came ++ more)) → ByGiven P given
by_all P None left came consumes ends = (came, subst P (append-nil came) (ends []))
by_all P (Some all) None came consumes ends = absurd consumes
by_all P (Some all) (Some rest) came consumes ends = subst P (sym consumes) (ends rest)

ends_by : (key : List ℕ) (given held : Option (List ℕ)) (b : Link) (has_started all_are_done : Bool)
    → Talks (Then (HelloEnds key has_started) (EndsBehindHello has_started all_are_done)) (record { incoming = new_incoming given; held = held }) b → SessionEnds key given held b.held all_are_done
ends_by key given held b has_started all_are_done (sent, came, held_then, consumes, ends) =
    (sent, held_then, by_all (EndsBy key all_are_done sent) given b.incoming.unread came consumes (λ more. (has_started, b.incoming.waiting ++ more, ends more)))

-- no line was read
pub not_started : (key : List ℕ) (given : Option (List ℕ)) (a b : Link) (has_started : Bool) → a.incoming ≡ new_incoming given → has_started ≡ false → Talks (HelloEnds key has_started) a b
    → SessionEnds key given a.held b.held false
not_started key given a b has_started new is hello =
    let from_new : Link = record { incoming = new_incoming given; held = a.held } in
    let said = subst (λ (i : Incoming). Talks (HelloEnds key has_started) (record { incoming = i; held = a.held }) b) new hello in
    let silent = talk_nothing (EndsBehindHello false false) b (λ bytes. (refl, (refl, refl))) in
    ends_by key given a.held b has_started false
    (talk_then (HelloEnds key has_started) (EndsBehindHello has_started false) from_new b b said (subst (λ (s : Bool). Talks (EndsBehindHello s false) b b) (sym is) silent))

pub started : (key : List ℕ) (given : Option (List ℕ)) (a b c : Link) (has_started : Bool) (result : Result Bool ClientFault) → a.incoming ≡ new_incoming given → has_started ≡ true → Talks (HelloEnds key has_started) a b
    → IfOk result (λ all_are_done. Talks (LinesEnd all_are_done) b c) → IfOk result (SessionEnds key given a.held c.held)
started key given a b c has_started (Err fault) new is hello end = tt
started key given a b c has_started (Ok all_are_done) new is hello end =
    let from_new : Link = record { incoming = new_incoming given; held = a.held } in
    let said = subst (λ (i : Incoming). Talks (HelloEnds key has_started) (record { incoming = i; held = a.held }) b) new hello in
    ends_by key given a.held c has_started all_are_done
    (talk_then (HelloEnds key has_started) (EndsBehindHello has_started all_are_done) from_new b c said (subst (λ (s : Bool). Talks (EndsBehindHello s all_are_done) b c) (sym is) end))
