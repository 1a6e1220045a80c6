-- What clap's walk makes of one word: a value at its place, a flag, an option and the value behind it.
use Rattle.std.proofs.Common.{◌≡◌, ◌∙◌, ℕ, ◌+◌, Bool, false, List, [], ◌∷◌, ◌++◌, min, Option, Some, None, refl, sym, ap, ap₂, subst, codes}
use Rattle.std.specs.Prelude.{fold}
use Rattle.std.specs.Str.{bytes_eq}
use Rattle.std.proofs.Math.Bool.{and-false}
use Rattle.std.proofs.lemmas.Bool.{or_parts}
use Rattle.std.proofs.lemmas.List.{append-nil}
use Rattle.std.proofs.lemmas.Slice.Eq.{bytes_eq-Decides}
use Rattle.clap.specs.Faults.{settle_fault, turn_fault, use_fault, walk_fault}
use Rattle.clap.specs.Kinds.{Kinds, or_else}
use Rattle.clap.specs.Lexer.{long_of, short_of, usize_max}
use Rattle.clap.specs.Simple.{Shape, built, filled, new_rule}
use Rattle.clap.specs.Walk.{Held, Row, Rule, Text, Walk, arg_by_id, arg_by_index, arg_by_long, at_row, has_row, idle, option, more_values, pushed, reacted, settled, is_pending, walked}
use Rattle.clap.specs.declared.builder.action.ArgAction.TheVariants.{Set}
use Rattle.clap.specs.declared.parser.matches.ValueSource.TheVariants.{CommandLine}
use Rattle.ipc_words.specs.Grammar.{app_with, flag}
use Rattle.ipc_words.specs.Placing.{begins_with_hyphen, row_of_word}

-- ---- a word that doesn't begin with a hyphen

no_long : (word : Text) → begins_with_hyphen word ≡ false → long_of word ≡ None
no_long [] plain = refl
no_long (byte ∷ rest) plain = rw plain refl

no_short : (word : Text) → begins_with_hyphen word ≡ false → short_of word ≡ None
no_short [] plain = refl
no_short (byte ∷ rest) plain = rw plain refl

no_dashes : (word : Text) → begins_with_hyphen word ≡ false → bytes_eq word (45 ∷ 45 ∷ []) ≡ false
no_dashes [] plain = refl
no_dashes (byte ∷ rest) plain = rw plain refl

-- ---- rows

-- a row of a name that has none is added at the end
pub fresh_row : (id : Text) (change : Row → List Row) (missing rows : List Row) → has_row id rows ≡ false → at_row id change missing rows ≡ rows ++ missing
fresh_row id change missing [] none = refl
fresh_row id change missing (row ∷ rows) none =
    let parts = or_parts (bytes_eq row.id id) (has_row id rows) none in
    rw (parts.0) (ap (λ (rest : List Row). row ∷ rest) (fresh_row id change missing rows parts.1))

-- the row of a use is added at the end
row_added : (name word : Text) (rows : List Row) → has_row name rows ≡ false
    → at_row name (more_values CommandLine (word ∷ [])) (row_of_word name word ∷ []) (at_row name (λ _. []) [] rows) ≡ rows ++ row_of_word name word ∷ []
row_added name word rows none =
    let kept : at_row name (λ _. []) [] rows ≡ rows = fresh_row name (λ _. []) [] rows none ∙ append-nil rows in
    rw kept (fresh_row name (more_values CommandLine (word ∷ [])) (row_of_word name word ∷ []) rows none)

-- ---- built arguments

-- one with a value, by its long name, its place and whether it must be given
abbrev pub value_rule : Option Text → Option ℕ → Bool → Text → Rule
value_rule long place must name = record (filled (record (new_rule name) { required = must; action = Some Set })) { long = long; index = place }

abbrev pub flag_rule : Text → Rule
flag_rule name = filled (flag name)

-- the command line of these built arguments
abbrev pub level : Text → List Rule → Shape
level name all = record ((built (app_with name [])).top) { rules = all }

-- ---- a value at its place

-- the walk before a word, where the next value stands at place i
abbrev pub walk_at : ℕ → Held → Walk
walk_at i held = record { held = held; waiting = idle; position = i; is_trailing = false; stopped = None }

pub word_taken : (all : List Rule) (i : ℕ) (held : Held) (must : Bool) (name word : Text)
    → begins_with_hyphen word ≡ false → arg_by_index all i ≡ Some (value_rule None (Some i) must name)
    → walked all [] (walk_at i held) word ≡ walk_at (min (i + 1) usize_max) (pushed name word (settled all held))
unfolding walked
word_taken all i held must name word plain place =
    rw (no_long word plain, no_short word plain, no_dashes word plain, place, and-false (is_pending (value_rule None (Some i) must name) held.pending)) refl

pub word_passes : (command : Text) (all : List Rule) (i : ℕ) (held : Held) (must : Bool) (name word : Text)
    → begins_with_hyphen word ≡ false → arg_by_index all i ≡ Some (value_rule None (Some i) must name) → settle_fault all false held ≡ []
    → turn_fault (level command all) [] (walk_at i held) word ≡ []
word_passes command all i held must name word plain place passes =
    rw (no_long word plain, no_short word plain, no_dashes word plain, place, and-false (is_pending (value_rule None (Some i) must name) held.pending)) passes

-- the word that waits to be settled passes, and has its row
pub waiting_passes : (all : List Rule) (held : Held) (long : Option Text) (place : Option ℕ) (must : Bool) (name word : Text)
    → arg_by_id all name ≡ Some (value_rule long place must name) → has_row name (settled all held).rows ≡ false
    → settle_fault all false (pushed name word (settled all held)) ≡ []
waiting_passes all held long place must name word found none = rw (found, none) refl

pub waiting_rows : (all : List Rule) (held : Held) (long : Option Text) (place : Option ℕ) (must : Bool) (name word : Text)
    → arg_by_id all name ≡ Some (value_rule long place must name) → has_row name (settled all held).rows ≡ false
    → (settled all (pushed name word (settled all held))).rows ≡ (settled all held).rows ++ row_of_word name word ∷ []
waiting_rows all held long place must name word found none = rw found (row_added name word (settled all held).rows none)

-- ---- a flag

pub flag_taken : (all : List Rule) (i : ℕ) (held : Held) (name word : Text)
    → long_of word ≡ Some (name, None) → bytes_eq word (45 ∷ 45 ∷ []) ≡ false → arg_by_long all name ≡ Some (flag_rule name)
    → walked all [] (walk_at i held) word ≡ walk_at i (reacted all (flag_rule name) [] held)
unfolding walked
flag_taken all i held name word long dashes found = rw (long, dashes, found) refl

flag_use_passes : (name : Text) (rows : List Row) → has_row name rows ≡ false → use_fault false (flag_rule name) [] rows ≡ []
flag_use_passes name rows none = rw none refl

pub flag_passes : (command : Text) (all : List Rule) (i : ℕ) (held : Held) (name word : Text)
    → long_of word ≡ Some (name, None) → bytes_eq word (45 ∷ 45 ∷ []) ≡ false → arg_by_long all name ≡ Some (flag_rule name)
    → settle_fault all false held ≡ [] → has_row name (settled all held).rows ≡ false
    → turn_fault (level command all) [] (walk_at i held) word ≡ []
flag_passes command all i held name word long dashes found passes none =
    rw (long, dashes, found) (ap (λ (kinds : Kinds). or_else kinds []) (ap₂ or_else passes (flag_use_passes name (settled all held).rows none)))

pub flag_rows : (all : List Rule) (held : Held) (name : Text) → has_row name (settled all held).rows ≡ false
    → (settled all (reacted all (flag_rule name) [] held)).rows ≡ (settled all held).rows ++ row_of_word name (codes "true") ∷ []
flag_rows all held name none = row_added name (codes "true") (settled all held).rows none

-- ---- an option and the value behind it

-- the walk where the option waits for its value
abbrev pub walk_due : List Rule → ℕ → Held → Text → Walk
walk_due all i held name = record {
  held = record (settled all held) { pending = Some (name, []) };
  waiting = option name;
  position = i;
  is_trailing = false;
  stopped = None;
}

pub option_taken : (all : List Rule) (i : ℕ) (held : Held) (name word : Text)
    → long_of word ≡ Some (name, None) → bytes_eq word (45 ∷ 45 ∷ []) ≡ false → arg_by_long all name ≡ Some (value_rule (Some name) None false name)
    → walked all [] (walk_at i held) word ≡ walk_due all i held name
unfolding walked
option_taken all i held name word long dashes found = rw (long, dashes, found) refl

pub option_passes : (command : Text) (all : List Rule) (i : ℕ) (held : Held) (name word : Text)
    → long_of word ≡ Some (name, None) → bytes_eq word (45 ∷ 45 ∷ []) ≡ false → arg_by_long all name ≡ Some (value_rule (Some name) None false name)
    → settle_fault all false held ≡ []
    → turn_fault (level command all) [] (walk_at i held) word ≡ []
option_passes command all i held name word long dashes found passes =
    rw (long, dashes, found) (ap (λ (kinds : Kinds). or_else kinds []) passes)

pub value_taken : (all : List Rule) (i : ℕ) (held : Held) (name word : Text)
    → begins_with_hyphen word ≡ false → arg_by_id all name ≡ Some (value_rule (Some name) None false name)
    → walked all [] (walk_due all i held name) word ≡ walk_at i (pushed name word (settled all held))
unfolding walked
value_taken all i held name word plain found =
    rw (no_long word plain, no_short word plain, no_dashes word plain, found, (bytes_eq-Decides name name).1 refl) refl

pub value_passes : (command : Text) (all : List Rule) (i : ℕ) (held : Held) (name word : Text)
    → begins_with_hyphen word ≡ false
    → turn_fault (level command all) [] (walk_due all i held name) word ≡ []
value_passes command all i held name word plain =
    rw (no_long word plain, no_short word plain, no_dashes word plain) refl

-- ---- all words

-- from here on clap finds no fault, and ends with these rows
abbrev pub EndsWith : Text → List Rule → Walk → List Text → List Row → Type 0
EndsWith command all from words rows =
    (walk_fault (level command all) [] from words ≡ [])
    × (settle_fault all false (fold (walked all []) from words).held ≡ [])
    × ((settled all (fold (walked all []) from words).held).rows ≡ rows)
    × ((fold (walked all []) from words).stopped ≡ None)

-- one word more in front, which leads from one place of the walk to another
pub one_word_more : (command : Text) (all : List Rule) (from to : Walk) (word : Text) (words : List Text) (rows : List Row)
    → walked all [] from word ≡ to → turn_fault (level command all) [] from word ≡ []
    → EndsWith command all to words rows → EndsWith command all from (word ∷ words) rows
unfolding walk_fault
one_word_more command all from to word words rows taken turn rest =
    let on : EndsWith command all (walked all [] from word) words rows =
    subst (λ (w : Walk). EndsWith command all w words rows) (sym taken) rest in
    (ap₂ or_else turn on.0, on.1, on.2, on.3)
