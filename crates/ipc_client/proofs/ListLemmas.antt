-- What `list` sent, from what its parts sent.
use Rattle.std.proofs.Common.{◌≡◌, ℕ, zero, suc, ◌+◌, Bool, true, false, List, [], ◌∷◌, ◌++◌, Option, None, Some, Bor, length, drop, map, refl, sym, ap, subst, inl, inr, append_assoc, append-nil, ◌∙◌, codes, arith}
use Rattle.std.specs.Prelude.{◌&&◌, decimal, unwrap_or}
use Rattle.std.specs.Slice.{IsGetRangeResult}
use Rattle.std.proofs.lemmas.List.{drop-map, drop_all, length-map, take_rest}
use Rattle.ipc_terms.specs.declared.call.Answer.{Answer}
use Rattle.ipc_terms.specs.declared.ids.Desc.{Desc}
use Rattle.ipc_terms.specs.declared.ids.Family.{Family}
use Rattle.ipc_terms.specs.declared.ids.Family.TheVariants.{Mq, Sem}
use Rattle.ipc_lines.specs.Words.{words_in}
use Rattle.ipc_words.specs.Answers.{answer_line}
use Rattle.ipc_client.specs.Acts.{Does, acting, closing, opening}
use Rattle.ipc_client.specs.Connections.{Incoming}
use Rattle.ipc_client.specs.Dialogues.{Link, Says, Talks, Then, opened_by}
use Rattle.ipc_client.specs.Lists.{FamilyGoes, ListEnds, LookGoesOn, Looks, NameGoes, NamesGo, PageGoes, PageGoesOn, PagesGo, SoManyPages, Tries, last_count, look_of, names_in, names_told, tells_names, word_of}
use Rattle.ipc_client.specs.declared.acts.Act.{Act}
use Rattle.ipc_client.proofs.TalkLemmas.{talk_as, talk_nothing, talk_shown, talk_then}

-- ---- a name

pub tried : (words meant : List (List ℕ)) (outcome : Option Answer) (a b : Link) → words ≡ meant → Talks (Says words outcome) a b → Talks (Tries meant) a b
tried words meant outcome a b e said_it = talk_as (Says meant outcome) (Tries meant) a b (λ sent bytes rest it. (outcome, it)) (subst (λ (w : List (List ℕ)). Talks (Says w outcome) a b) e said_it)

pub not_looked : (act : Act) (name : List ℕ) (words : List (List ℕ)) (opened : Option Answer) (a b : Link) → words ≡ opening act name → opened_by opened ≡ None → Talks (Says words opened) a b → Talks (Looks act name) a b
not_looked act name words opened a b e none opens =
    let on : Talks (LookGoesOn act (opened_by opened)) b b =
    subst (λ (d : Option Desc). Talks (LookGoesOn act d) b b) (sym none) (talk_nothing (LookGoesOn act None) b (λ bytes. (refl, refl))) in
    talk_as (Then (Says (opening act name) opened) (LookGoesOn act (opened_by opened))) (Looks act name) a b (λ sent bytes rest it. (opened, it))
    (talk_then (Says (opening act name) opened) (LookGoesOn act (opened_by opened)) a b b (subst (λ (w : List (List ℕ)). Talks (Says w opened) a b) e opens) on)

pub looked : (act : Act) (name d : List ℕ) (words question : List (List ℕ)) (opened state : Option Answer) (desc : Desc) (is_closed : Bool) (a b c e : Link) → words ≡ opening act name → opened_by opened ≡ Some desc → d ≡ decimal desc.0
    → question ≡ acting act (decimal desc.0) [] → Talks (Says words opened) a b → Talks (Says question state) b c → Talks (Does (closing act d) is_closed) c e → Talks (Looks act name) a e
looked act name d words question opened state desc is_closed a b c e is some number asks opens acts closes =
    let number_closes = subst (λ (n : List ℕ). Talks (Does (closing act n) is_closed) c e) number closes in
    let closed = talk_as (Does (closing act (decimal desc.0)) is_closed) (Tries (closing act (decimal desc.0))) c e (λ sent bytes rest it. (it.0, it.1)) number_closes in
    let pair = talk_then (Tries (acting act (decimal desc.0) [])) (Tries (closing act (decimal desc.0))) b c e (tried question (acting act (decimal desc.0) []) state b c asks acts) closed in
    let on : Talks (LookGoesOn act (opened_by opened)) b e = subst (λ (o : Option Desc). Talks (LookGoesOn act o) b e) (sym some) pair in
    talk_as (Then (Says (opening act name) opened) (LookGoesOn act (opened_by opened))) (Looks act name) a e (λ sent bytes rest it. (opened, it))
    (talk_then (Says (opening act name) opened) (LookGoesOn act (opened_by opened)) a b e (subst (λ (w : List (List ℕ)). Talks (Says w opened) a b) is opens) on)

pub name_told : (family : Family) (act : Act) (name f : List ℕ) (words : List (List ℕ)) (facts : Option Answer) (a b c : Link) → words ≡ codes "stat" ∷ f ∷ name ∷ [] → f ≡ word_of family → act ≡ look_of family
    → Talks (Says words facts) a b → Talks (Looks act name) b c → Talks (NameGoes family name) a c
name_told family act name f words facts a b c is family_is act_is asks looks =
    let meant : List (List ℕ) = codes "stat" ∷ word_of family ∷ name ∷ [] in
    talk_then (Tries meant) (Looks (look_of family) name) a b c (tried words meant facts a b (is ∙ ap (λ (w : List ℕ). codes "stat" ∷ w ∷ name ∷ []) family_is) asks) (subst (λ (x : Act). Talks (Looks x name) b c) act_is looks)

-- ---- the names of a page

no_name_yet : (family : Family) (bytes : List ℕ) → NamesGo family [] [] bytes bytes
unfolding NamesGo
no_name_yet family bytes = (refl, refl)

pub no_name : (family : Family) (l : Link) → Talks (NamesGo family []) l l
no_name family l = talk_nothing (NamesGo family []) l (no_name_yet family)

name_behind : (family : Family) (names : List (List ℕ)) (name sent bytes rest : List ℕ) → Then (NamesGo family names) (NameGoes family name) sent bytes rest → NamesGo family (names ++ name ∷ []) sent bytes rest
unfolding NamesGo
name_behind family [] name sent bytes rest (first, second, between, parts, (none, same), goes) =
    let whole : sent ≡ second ++ [] = parts ∙ ap (λ (l : List ℕ). l ++ second) none ∙ sym (append-nil second) in
    (second, [], rest, whole, subst (λ (b : List ℕ). NameGoes family name second b rest) same goes, (refl, refl))
name_behind family (other ∷ names) name sent bytes rest (first, second, between, parts, (front, back, middle, halves, other_goes, go), goes) =
    (front, back ++ second, middle, parts ∙ ap (λ (l : List ℕ). l ++ second) halves ∙ append_assoc front back second, other_goes, name_behind family names name (back ++ second) middle rest (back, second, between, refl, go, goes))

pub one_name_more : (family : Family) (names more : List (List ℕ)) (name : List ℕ) (a b c : Link) → more ≡ names ++ name ∷ [] → Talks (NamesGo family names) a b → Talks (NameGoes family name) b c → Talks (NamesGo family more) a c
one_name_more family names more name a b c e go goes =
    subst (λ (l : List (List ℕ)). Talks (NamesGo family l) a c) (sym e)
    (talk_as (Then (NamesGo family names) (NameGoes family name)) (NamesGo family (names ++ name ∷ [])) a c (name_behind family names name) (talk_then (NamesGo family names) (NameGoes family name) a b c go goes))

-- ---- a page

-- what is taken of a list behind its first two, or none
pub behind_two : {X : Type 0} (xs : List X) (found : Option (Bor (List X))) (none : Bor (List X)) → none.now ≡ [] → IsGetRangeResult xs 2 (length xs) found → (unwrap_or found none).now ≡ drop 2 xs
behind_two xs None none e (inl less, some) = e ∙ sym (drop_all 2 xs (omega arith))
behind_two xs None none e (inr less, some) = absurd (omega arith)
behind_two xs (Some part) none e ((from, within, same, size), some) = same ∙ take_rest xs 2

pub names_listed : (family : Family) (answer : Answer) (line : List ℕ) (words : List (Bor (List ℕ))) (found : Option (Bor (List (Bor (List ℕ))))) (none names : Bor (List (Bor (List ℕ)))) (count : ℕ) (a b : Link) → line ≡ answer_line answer
    → map (λ (w : Bor (List ℕ)). w.now) words ≡ words_in line → IsGetRangeResult words 2 (length words) found → names ≡ unwrap_or found none → none.now ≡ [] → count ≡ length names.now
    → Talks (NamesGo family (map (λ (w : Bor (List ℕ)). w.now) names.now)) a b → Talks (PageGoesOn family (Some (names_in answer)) (Some count)) a b
names_listed family answer line words found none names count a b line_is words_are get is empty counted go =
    let now : Bor (List ℕ) → List ℕ = λ (w : Bor (List ℕ)). w.now in
    let told : map now names.now ≡ names_in answer =
    ap (λ (n : Bor (List (Bor (List ℕ)))). map now n.now) is ∙ ap (map now) (behind_two words found none empty get) ∙ sym (drop-map now 2 words) ∙ ap (drop 2) (words_are ∙ ap words_in line_is) in
    talk_as (NamesGo family (names_in answer)) (PageGoesOn family (Some (names_in answer)) (Some count)) a b (λ sent bytes rest it. (it, ap Some (counted ∙ sym (length-map names.now now) ∙ ap length told)))
    (subst (λ (l : List (List ℕ)). Talks (NamesGo family l) a b) told go)

pub page_told : (family : Family) (start : ℕ) (words : List (List ℕ)) (page : Option Answer) (answer : Answer) (count : ℕ) (a b c : Link) → words ≡ codes "ls" ∷ word_of family ∷ decimal start ∷ codes "1000" ∷ [] → page ≡ Some answer → tells_names answer ≡ true
    → Talks (Says words page) a b → Talks (PageGoesOn family (Some (names_in answer)) (Some count)) b c → Talks (PageGoes family start (Some count)) a c
page_told family start words page answer count a b c e is tells asks goes =
    let meant : List (List ℕ) = codes "ls" ∷ word_of family ∷ decimal start ∷ codes "1000" ∷ [] in
    let told : names_told page ≡ Some (names_in answer) = rw (is, tells) refl in
    let on : Talks (PageGoesOn family (names_told page) (Some count)) b c = subst (λ (names : Option (List (List ℕ))). Talks (PageGoesOn family names (Some count)) b c) (sym told) goes in
    talk_as (Then (Says meant page) (PageGoesOn family (names_told page) (Some count))) (PageGoes family start (Some count)) a c (λ sent bytes rest it. (page, it))
    (talk_then (Says meant page) (PageGoesOn family (names_told page) (Some count)) a b c (subst (λ (w : List (List ℕ)). Talks (Says w page) a b) e asks) on)

pub no_names : (page : Option Answer) (answer : Answer) → page ≡ Some answer → tells_names answer ≡ false → names_told page ≡ None
no_names page answer is tells = rw (is, tells) refl

pub page_not_told : (family : Family) (start : ℕ) (words : List (List ℕ)) (page : Option Answer) (a b : Link) (i : Incoming) → words ≡ codes "ls" ∷ word_of family ∷ decimal start ∷ codes "1000" ∷ [] → names_told page ≡ None
    → Talks (Says words page) a b → i ≡ b.incoming → Talks (PageGoes family start None) a (record { incoming = i; held = b.held })
page_not_told family start words page a b i e none asks same =
    let meant : List (List ℕ) = codes "ls" ∷ word_of family ∷ decimal start ∷ codes "1000" ∷ [] in
    let on : Talks (PageGoesOn family (names_told page) None) b b =
    subst (λ (names : Option (List (List ℕ))). Talks (PageGoesOn family names None) b b) (sym none) (talk_nothing (PageGoesOn family None None) b (λ bytes. ((refl, refl), refl))) in
    talk_shown (PageGoes family start None) a b i
    (talk_as (Then (Says meant page) (PageGoesOn family (names_told page) None)) (PageGoes family start None) a b (λ sent bytes rest it. (page, it))
    (talk_then (Says meant page) (PageGoesOn family (names_told page) None) a b b (subst (λ (w : List (List ℕ)). Talks (Says w page) a b) e asks) on))
    same

-- ---- a family

no_page_yet : (family : Family) (bytes : List ℕ) → PagesGo family 0 [] bytes bytes
unfolding SoManyPages
no_page_yet family bytes = (0, (refl, (refl, refl)))

pub no_page : (family : Family) (l : Link) → Talks (PagesGo family 0) l l
no_page family l = talk_nothing (PagesGo family 0) l (no_page_yet family)

page_behind : (family : Family) (start count told : ℕ) (sent bytes rest : List ℕ) → (count ≡ 0 → ⊥) → told ≡ start + count → Then (PagesGo family start) (PageGoes family start (Some count)) sent bytes rest → PagesGo family told sent bytes rest
unfolding SoManyPages
page_behind family start zero told sent bytes rest some e it = absurd (some refl)
page_behind family start (suc more) told sent bytes rest some e (first, second, between, parts, (n, go), goes) = (suc n, (start, more, (first, second, between, parts, go, goes), e))

pub one_page_more : (family : Family) (start count told : ℕ) (found : Option ℕ) (a b c : Link) → found ≡ Some count → (count ≡ 0 → ⊥) → told ≡ start + count → Talks (PagesGo family start) a b → Talks (PageGoes family start found) b c → Talks (PagesGo family told) a c
one_page_more family start count told found a b c is some e go goes =
    talk_as (Then (PagesGo family start) (PageGoes family start (Some count))) (PagesGo family told) a c (λ sent bytes rest it. page_behind family start count told sent bytes rest some e it)
    (talk_then (PagesGo family start) (PageGoes family start (Some count)) a b c go (subst (λ (f : Option ℕ). Talks (PageGoes family start f) b c) is goes))

pub last_page : (family : Family) (start : ℕ) (count : Option ℕ) (are_all_told : Bool) (a b c : Link) → count ≡ last_count are_all_told → Talks (PagesGo family start) a b → Talks (PageGoes family start count) b c → Talks (FamilyGoes family are_all_told) a c
last_page family start count are_all_told a b c e go goes =
    let last = subst (λ (told : Option ℕ). Talks (PageGoes family start told) b c) e goes in
    talk_as (Then (PagesGo family start) (PageGoes family start (last_count are_all_told))) (FamilyGoes family are_all_told) a c (λ sent bytes rest it. (start, it))
    (talk_then (PagesGo family start) (PageGoes family start (last_count are_all_told)) a b c go last)

pub both_families : (queues semaphores : Bool) (a b c : Link) → Talks (FamilyGoes Mq queues) a b → Talks (FamilyGoes Sem semaphores) b c → Talks (ListEnds (queues && semaphores)) a c
both_families queues semaphores a b c first second =
    talk_as (Then (FamilyGoes Mq queues) (FamilyGoes Sem semaphores)) (ListEnds (queues && semaphores)) a c (λ sent bytes rest it. (queues, semaphores, it, refl))
    (talk_then (FamilyGoes Mq queues) (FamilyGoes Sem semaphores) a b c first second)
