-- What a command says, from what its frame is and how it was answered.
use Rattle.std.proofs.Common.{◌≡◌, ℕ, Bool, true, false, List, [], Option, None, Some, Result, Ok, Err, refl, sym, ap, subst, ◌∙◌}
use Rattle.std.specs.Prelude.{◌&&◌, IfOk, OnOk, Vec, decimal}
use Rattle.std.specs.Io.KnownBytes.{Appends}
use Rattle.ipc_terms.specs.declared.call.Answer.{Answer}
use Rattle.ipc_terms.specs.declared.ids.Desc.{Desc}
use Rattle.ipc_wire.specs.Streams.{spell}
use Rattle.ipc_wire.specs.declared.request.Request.TheVariants.{Hello}
use Rattle.ipc_words.specs.declared.faults.WordFault.{WordFault}
use Rattle.ipc_client.specs.Acts.{ActEnds, ActGoesOn, ByNameEnds, Does, IsOpening, OpenGoesOn, Opens, acting, closing, size_told}
use Rattle.ipc_client.specs.Connections.{Incoming, Reads}
use Rattle.ipc_client.specs.Dialogues.{Goes, IsAnswered, IsCommandFrame, IsFrameOf, IsFrameUnless, Link, Says, Talks, Then, bytes_of, is_accepted, lacks_description, last_after, opened_by, with_last}
use Rattle.ipc_client.specs.Sessions.{CommandEnds, HelloEnds, is_start}
use Rattle.ipc_client.specs.declared.acts.Act.{Act}
use Rattle.ipc_client.specs.declared.fault.ClientFault.{ClientFault}
use Rattle.ipc_client.proofs.TalkLemmas.{talk_answered, talk_as, talk_nothing, talk_shown, talk_then}

-- the same link, once more has been written elsewhere
abbrev pub later : Incoming → Link → Link
later i b = record { incoming = i; held = b.held }

-- ---- frames

pub frame_lacking : (last : Option Desc) (words : List (List ℕ)) (plain frame : Result (List ℕ) WordFault) → lacks_description plain ≡ true → IsFrameOf words plain → IsFrameOf (with_last last words) frame → IsCommandFrame last words frame
frame_lacking last words plain frame lacks is last_is = (plain, is, subst (λ (b : Bool). IsFrameUnless b last words plain frame) (sym lacks) last_is)

pub frame_plain : (last : Option Desc) (words : List (List ℕ)) (plain : Result (List ℕ) WordFault) → lacks_description plain ≡ false → IsFrameOf words plain → IsCommandFrame last words plain
frame_plain last words plain lacks is = (plain, is, subst (λ (b : Bool). IsFrameUnless b last words plain plain) (sym lacks) refl)

-- ---- one command

pub asked : {Z : Type 0} (frame : Vec ℕ Z) (given : Result (Vec ℕ Z) WordFault) (sent : List ℕ) (answer : Answer) (a b : Link) → given ≡ Ok frame → sent ≡ frame.items → Appends a.held b.held sent → Reads (IsAnswered answer) a.incoming b.incoming
    → Talks (Goes (bytes_of given) (Some answer)) a b
asked {Z} frame given sent answer a b is same held reads =
    subst (λ (f : Result (Vec ℕ Z) WordFault). Talks (Goes (bytes_of f) (Some answer)) a b) (sym is)
    (talk_answered frame.items answer a b (subst (Appends a.held b.held) same held) reads)

pub silent : {Z : Type 0} (given : Result (Vec ℕ Z) WordFault) (i : Incoming) (a : Link) → ((bytes : List ℕ) → Goes (bytes_of given) None [] bytes bytes) → i ≡ a.incoming → Talks (Goes (bytes_of given) None) a (later i a)
silent given i a goes same = talk_shown (Goes (bytes_of given) None) a a i (talk_nothing (Goes (bytes_of given) None) a goes) same

pub said : {Z : Type 0} (words : List (List ℕ)) (frame : Result (Vec ℕ Z) WordFault) (a b : Link) (result : Result (Option Answer) ClientFault) → IsFrameOf words (bytes_of frame)
    → IfOk result (λ outcome. Talks (Goes (bytes_of frame) outcome) a b) → IfOk result (λ outcome. Talks (Says words outcome) a b)
said words frame a b (Err fault) is goes = tt
said words frame a b (Ok outcome) is goes = talk_as (Goes (bytes_of frame) outcome) (Says words outcome) a b (λ sent bytes rest it. (bytes_of frame, is, it)) goes

pub does : (words meant : List (List ℕ)) (outcome : Option Answer) (a b : Link) (i : Incoming) (result : Result Bool ClientFault) → words ≡ meant → Talks (Says words outcome) a b → i ≡ b.incoming
    → IfOk result (λ is_done. is_done ≡ is_accepted outcome) → IfOk result (λ is_done. Talks (Does meant is_done) a (later i b))
does words meant outcome a b i (Err fault) e said_it same is = tt
does words meant outcome a b i (Ok is_done) e said_it same is =
    talk_shown (Does meant is_done) a b i
    (talk_as (Says meant outcome) (Does meant is_done) a b (λ sent bytes rest it. (outcome, it, is)) (subst (λ (w : List (List ℕ)). Talks (Says w outcome) a b) e said_it))
    same

pub called : (before after : Option Desc) (words : List (List ℕ)) (frame : Result (List ℕ) WordFault) (outcome : Option Answer) (a b : Link) (i : Incoming) (result : Result Bool ClientFault)
    → IsCommandFrame before words frame → Talks (Goes frame outcome) a b → i ≡ b.incoming → after ≡ last_after (opened_by outcome) before
    → IfOk result (λ is_done. is_done ≡ is_accepted outcome) → IfOk result (λ is_done. Talks (CommandEnds before words after is_done) a (later i b))
called before after words frame outcome a b i (Err fault) is goes same opened done = tt
called before after words frame outcome a b i (Ok is_done) is goes same opened done =
    talk_shown (CommandEnds before words after is_done) a b i
    (talk_as (Goes frame outcome) (CommandEnds before words after is_done) a b (λ sent bytes rest it. (outcome, (frame, is, it), opened, done)) goes)
    same

pub greeted : (key frame sent : List ℕ) (answer : Answer) (has_started : Bool) (a b : Link) (i : Incoming) → spell (Hello key) ≡ Some frame → sent ≡ frame → Appends a.held b.held sent → Reads (IsAnswered answer) a.incoming b.incoming
    → i ≡ b.incoming → has_started ≡ is_start answer → Talks (HelloEnds key has_started) a (later i b)
greeted key frame sent answer has_started a b i spelled e held reads same is =
    let told = talk_answered frame answer a b (subst (Appends a.held b.held) e held) reads in
    talk_shown (HelloEnds key has_started) a b i
    (talk_as (λ s bytes rest. (s ≡ frame) × IsAnswered answer bytes rest) (HelloEnds key has_started) a b (λ s bytes rest it. (answer, spelled ∙ ap Some (sym it.0), it.1, is)) told)
    same

-- ---- commands by name

pub act_shown : (act : Act) (d : List ℕ) (arguments words : List (List ℕ)) (outcome : Option Answer) (a b : Link) (i : Incoming) (result : Result Bool ClientFault) → words ≡ acting act d arguments → size_told act outcome ≡ None
    → Talks (Says words outcome) a b → i ≡ b.incoming → IfOk result (λ is_done. is_done ≡ is_accepted outcome) → IfOk result (λ is_done. Talks (ActEnds act d arguments is_done) a (later i b))
act_shown act d arguments words outcome a b i (Err fault) e none said_it same is = tt
act_shown act d arguments words outcome a b i (Ok is_done) e none said_it same is =
    let on : Talks (ActGoesOn d (size_told act outcome) outcome is_done) b b =
    subst (λ (size : Option ℕ). Talks (ActGoesOn d size outcome is_done) b b) (sym none) (talk_nothing (ActGoesOn d None outcome is_done) b (λ bytes. (is, (refl, refl)))) in
    let spoken = subst (λ (w : List (List ℕ)). Talks (Says w outcome) a b) e said_it in
    talk_shown (ActEnds act d arguments is_done) a b i
    (talk_as (Then (Says (acting act d arguments) outcome) (ActGoesOn d (size_told act outcome) outcome is_done)) (ActEnds act d arguments is_done) a b (λ sent bytes rest it. (outcome, it))
    (talk_then (Says (acting act d arguments) outcome) (ActGoesOn d (size_told act outcome) outcome is_done) a b b spoken on))
    same

pub act_received : (act : Act) (d : List ℕ) (arguments words : List (List ℕ)) (size : ℕ) (outcome : Option Answer) (a b c : Link) (result : Result Bool ClientFault) → words ≡ acting act d arguments → size_told act outcome ≡ Some size
    → Talks (Says words outcome) a b → IfOk result (λ is_done. Talks (ActGoesOn d (Some size) outcome is_done) b c) → IfOk result (λ is_done. Talks (ActEnds act d arguments is_done) a c)
act_received act d arguments words size outcome a b c (Err fault) e told said_it received = tt
act_received act d arguments words size outcome a b c (Ok is_done) e told said_it received =
    let on : Talks (ActGoesOn d (size_told act outcome) outcome is_done) b c =
    subst (λ (s : Option ℕ). Talks (ActGoesOn d s outcome is_done) b c) (sym told) received in
    let spoken = subst (λ (w : List (List ℕ)). Talks (Says w outcome) a b) e said_it in
    talk_as (Then (Says (acting act d arguments) outcome) (ActGoesOn d (size_told act outcome) outcome is_done)) (ActEnds act d arguments is_done) a c (λ sent bytes rest it. (outcome, it))
    (talk_then (Says (acting act d arguments) outcome) (ActGoesOn d (size_told act outcome) outcome is_done) a b c spoken on)

pub opens : (act : Act) (name : List ℕ) (arguments : List (List ℕ)) (frame : Result (List ℕ) WordFault) (outcome : Option Answer) (a b : Link) → IsOpening act name arguments frame → Talks (Goes frame outcome) a b
    → Talks (Opens act name arguments outcome) a b
opens act name arguments frame outcome a b is goes = talk_as (Goes frame outcome) (Opens act name arguments outcome) a b (λ sent bytes rest it. (frame, is, it)) goes

pub not_opened : (act : Act) (name : List ℕ) (arguments : List (List ℕ)) (frame : Result (List ℕ) WordFault) (outcome : Option Answer) (a b : Link) (i : Incoming) → IsOpening act name arguments frame → Talks (Goes frame outcome) a b → opened_by outcome ≡ None
    → i ≡ b.incoming → Talks (ByNameEnds act name arguments false) a (later i b)
not_opened act name arguments frame outcome a b i is goes none same =
    let on : Talks (OpenGoesOn act arguments (opened_by outcome) false) b b =
    subst (λ (d : Option Desc). Talks (OpenGoesOn act arguments d false) b b) (sym none) (talk_nothing (OpenGoesOn act arguments None false) b (λ bytes. (refl, (refl, refl)))) in
    talk_shown (ByNameEnds act name arguments false) a b i
    (talk_as (Then (Opens act name arguments outcome) (OpenGoesOn act arguments (opened_by outcome) false)) (ByNameEnds act name arguments false) a b (λ sent bytes rest it. (outcome, it))
    (talk_then (Opens act name arguments outcome) (OpenGoesOn act arguments (opened_by outcome) false) a b b (opens act name arguments frame outcome a b is goes) on))
    same

pub done_by_name : (act : Act) (name : List ℕ) (arguments : List (List ℕ)) (frame : Result (List ℕ) WordFault) (outcome : Option Answer) (desc : Desc) (d : List ℕ) (acted closed : Bool) (a b c e : Link)
    → IsOpening act name arguments frame → Talks (Goes frame outcome) a b → opened_by outcome ≡ Some desc → d ≡ decimal desc.0
    → Talks (ActEnds act d arguments acted) b c → Talks (Does (closing act d) closed) c e → Talks (ByNameEnds act name arguments (acted && closed)) a e
done_by_name act name arguments frame outcome desc d acted closed a b c e is goes some number acts closes =
    let pair = subst (λ (n : List ℕ). Talks (Then (ActEnds act n arguments acted) (Does (closing act n) closed)) b e) number (talk_then (ActEnds act d arguments acted) (Does (closing act d) closed) b c e acts closes) in
    let on : Talks (OpenGoesOn act arguments (opened_by outcome) (acted && closed)) b e =
    subst (λ (o : Option Desc). Talks (OpenGoesOn act arguments o (acted && closed)) b e) (sym some)
    (talk_as (Then (ActEnds act (decimal desc.0) arguments acted) (Does (closing act (decimal desc.0)) closed)) (OpenGoesOn act arguments (Some desc) (acted && closed)) b e (λ sent bytes rest it. (acted, closed, it, refl)) pair) in
    talk_as (Then (Opens act name arguments outcome) (OpenGoesOn act arguments (opened_by outcome) (acted && closed))) (ByNameEnds act name arguments (acted && closed)) a e (λ sent bytes rest it. (outcome, it))
    (talk_then (Opens act name arguments outcome) (OpenGoesOn act arguments (opened_by outcome) (acted && closed)) a b e (opens act name arguments frame outcome a b is goes) on)

pub on_ok_shown : {T E : Type 0} (P : List ℕ → List ℕ → List ℕ → Type 0) (result : Result T E) (a b : Link) (i : Incoming) → Talks P a b → i ≡ b.incoming → OnOk result (Talks P a (later i b))
on_ok_shown P (Ok x) a b i talks same = talk_shown P a b i talks same
on_ok_shown P (Err e) a b i talks same = tt
