-- The lines of the user file, read one after another.
use Rattle.std.proofs.Common.{◌≡◌, ℕ, suc, ◌+◌, ◌<◌, ◌≤◌, List, [], ◌∷◌, ◌++◌, length, get_or, take, drop, refl, sym, ap, ◌∙◌, Bor, arith, length-append, add-one}
use Rattle.std.specs.Prelude.{Some, None}
use Rattle.std.proofs.lemmas.List.{take_more, length-take-le, take_all, drop_all, length-map, get_or-map}
use Rattle.std.proofs.Math.Seq.{drop-cons}
use Rattle.std.proofs.lemmas.List.Elements.{filter_map-append}
use Rattle.ipc_access.specs.declared.users.User.{User}
use Rattle.ipc_access.specs.declared.fault.UserFault.{UserFault}
use Rattle.ipc_access.specs.UserLine.{user_of}
use Rattle.ipc_access.proofs.LineLemmas.{behind}
use Rattle.ipc_access.specs.UserFile.{users_of, fault_after, fault_of, or_else, first_fault, user_fault}

-- the first i lines were read, and these are their users
pub record HaveRead (lines : List (List ℕ)) (i : ℕ) (rows : List User) : Type 0 where
  pub users : rows ≡ users_of (take i lines)
  pub count : length rows ≡ i
  pub faultless : user_fault lines ≡ first_fault (take i lines) (drop i lines)

pub begun : (lines : List (List ℕ)) → HaveRead lines 0 []
unfolding users_of user_fault
begun lines = record { users = refl; count = refl; faultless = refl }

-- one line more
taken : (lines : List (List ℕ)) (i : ℕ) (line : List ℕ) → i < length lines → line ≡ get_or lines i [] → take (i + 1) lines ≡ take i lines ++ line ∷ []
taken lines i line within here = take_more lines i [] within ∙ ap (λ l. take i lines ++ l ∷ []) (sym here)

dropped : (lines : List (List ℕ)) (i : ℕ) (line : List ℕ) → i < length lines → line ≡ get_or lines i [] → drop i lines ≡ line ∷ drop (i + 1) lines
dropped lines i line within here = drop-cons lines i [] within ∙ ap (λ l. l ∷ drop (suc i) lines) (sym here) ∙ ap (λ n. line ∷ drop n lines) (sym (add-one i))

-- what is wrong with the next line
next_fault : (lines : List (List ℕ)) (i : ℕ) (rows : List User) (line : List ℕ) → HaveRead lines i rows → i < length lines → fault_of (take i lines) line ≡ fault_after rows (length rows + 1) line
next_fault lines i rows line have within =
    ap (λ n. fault_after (users_of (take i lines)) (n + 1) line) (length-take-le i lines (omega arith) ∙ sym have.count)
    ∙ ap (λ us. fault_after us (length rows + 1) line) (sym have.users)

-- the fault of the file by that of the next line
by_next : (lines : List (List ℕ)) (i : ℕ) (rows : List User) (line : List ℕ) → HaveRead lines i rows → i < length lines → line ≡ get_or lines i [] → user_fault lines ≡ or_else (fault_after rows (length rows + 1) line) (first_fault (take (i + 1) lines) (drop (i + 1) lines))
by_next lines i rows line have within here =
    have.faultless
    ∙ ap (first_fault (take i lines)) (dropped lines i line within here)
    ∙ ap (λ f. or_else f (first_fault (take i lines ++ line ∷ []) (drop (i + 1) lines))) (next_fault lines i rows line have within)
    ∙ ap (λ before. or_else (fault_after rows (length rows + 1) line) (first_fault before (drop (i + 1) lines))) (sym (taken lines i line within here))

one_user : (line : List ℕ) (user : User) → user_of line ≡ Some user → users_of (line ∷ []) ≡ user ∷ []
unfolding users_of
one_user line user read = rw read refl

users_append : (before after : List (List ℕ)) → users_of (before ++ after) ≡ users_of before ++ users_of after
unfolding users_of
users_append before after = filter_map-append user_of before after

pub turned : (lines : List (List ℕ)) (i : ℕ) (rows seen : List User) (line : List ℕ) (user : User) → HaveRead lines i rows → i < length lines → seen ≡ rows → line ≡ get_or lines i [] → user_of line ≡ Some user → fault_after seen (length seen + 1) line ≡ None → HaveRead lines (i + 1) (rows ++ user ∷ [])
turned lines i rows seen line user have within same here read none = record {
  users =
      ap (λ us. us ++ user ∷ []) have.users
      ∙ ap (λ us. users_of (take i lines) ++ us) (sym (one_user line user read))
      ∙ sym (users_append (take i lines) (line ∷ []))
      ∙ ap users_of (sym (taken lines i line within here));
  count = omega (arith, length-append rows (user ∷ []), have.count);
  faultless = by_next lines i rows line have within here ∙ ap (λ f. or_else f (first_fault (take (i + 1) lines) (drop (i + 1) lines))) (ap (λ us. fault_after us (length us + 1) line) (sym same) ∙ none);
}

pub stopped : (lines : List (List ℕ)) (i : ℕ) (rows seen : List User) (line : List ℕ) (fault : UserFault) → HaveRead lines i rows → i < length lines → seen ≡ rows → line ≡ get_or lines i [] → fault_after seen (length seen + 1) line ≡ Some fault → user_fault lines ≡ Some fault
stopped lines i rows seen line fault have within same here some =
    by_next lines i rows line have within here ∙ ap (λ f. or_else f (first_fault (take (i + 1) lines) (drop (i + 1) lines))) (ap (λ us. fault_after us (length us + 1) line) (sym same) ∙ some)

pub done : (lines : List (List ℕ)) (i : ℕ) (rows : List User) → HaveRead lines i rows → length lines ≤ i → rows ≡ users_of lines
done lines i rows have end = have.users ∙ ap users_of (take_all i lines end)

pub done_faultless : (lines : List (List ℕ)) (i : ℕ) (rows : List User) → HaveRead lines i rows → length lines ≤ i → user_fault lines ≡ None
done_faultless lines i rows have end = have.faultless ∙ ap (first_fault (take i lines)) (drop_all i lines end)

-- the line behind the reference at this place
pub line_at : (items : List (Bor (List ℕ))) (i : ℕ) (z : Bor (List ℕ)) → i < length items → (get_or items i z).now ≡ get_or (behind items) i []
line_at items i z within = sym (get_or-map (λ item. item.now) items i z [] within)

pub within_behind : (items : List (Bor (List ℕ))) (i : ℕ) → i < length items → i < length (behind items)
within_behind items i within = omega (arith, length-map items (λ item. item.now))
