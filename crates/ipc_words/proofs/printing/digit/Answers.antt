use Rattle.std.proofs.Common.{rules, ◌≡◌, ℕ, ◌<◌, slice_index, refl}
use Rattle.hex.specs.Hex.{lower_digits}
use Rattle.ipc_words.proofs.PrintingLemmas.{all_ascii}
use Rattle.ipc_words.proofs.printing.digit.Goals as goal

digit_is_ascii : (digit number : ℕ) → digit ≡ slice_index lower_digits number → digit < 128
digit_is_ascii digit number is = rw is (all_ascii lower_digits refl number)

pub returns-clause-ascii : goal.returns-clause-ascii
returns-clause-ascii c = digit_is_ascii _ c.args.number (search rules)
