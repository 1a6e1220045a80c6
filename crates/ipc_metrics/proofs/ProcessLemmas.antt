-- What is read of the texts of /proc.
use Rattle.std.proofs.Common.{◌≡◌, ◌∙◌, ℕ, ◌<◌, List, ◌∷◌, ◌++◌, take, drop, sym, ap, arith}
use Rattle.std.specs.Str.Pattern.{RFindsChar, SplitsAroundMatch}
use Rattle.std.proofs.lemmas.List.{take-append-drop}
use Rattle.std.proofs.lemmas.Str.Pattern.{NoCharPasses-char, drop_at_char}
use Rattle.ipc_metrics.specs.Processes.{IsBehindBracket}

-- the part behind the last bracket
pub behind_last : (text front behind : List ℕ) → SplitsAroundMatch (RFindsChar 41) text front behind → IsBehindBracket text behind
behind_last text front behind (i, j, found, is_front, is_behind, ordered, front_size, behind_size) =
    let low : 41 < 128 = omega arith in
    let at_bracket : drop i text ≡ 41 ∷ drop j text = drop_at_char 41 text i j found.1 low in
    rw is_behind (take i text, sym (take-append-drop i text) ∙ ap (λ (tail : List ℕ). take i text ++ tail) at_bracket, λ k below. NoCharPasses-char 41 (drop j text) k found.0 low below)
