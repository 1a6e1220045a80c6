use Rattle.std.proofs.Common.{◌≡◌, ◌∙◌, Option, Some, None, option_map, refl, ap}
use Rattle.std.specs.Prelude.{find}
use Rattle.std.specs.Str.{bytes_eq}
use Rattle.clap.specs.Facts.{Entry}
use Rattle.clap.specs.Matches.{matched_of, raw_values}
use Rattle.clap.specs.Walk.{Row, Text, all_of, row_of, rows_of}
use Rattle.clap.specs.Words.{found_of}
use Rattle.clap.specs.declared.parser.matches.Found.{Found}
use Rattle.ipc_words.proofs.TableLemmas.{find_read}
use Rattle.ipc_program.proofs.trails.words_of.Goals as goal

-- what clap gives for an argument is what stands in its row
values_of_rows : (f : Found) (id : Text) → option_map raw_values (matched_of f id) ≡ all_of id (rows_of f)
values_of_rows f id =
    go (find (λ (e : Entry). bytes_eq e.0.now id) f.entries.items)
    ∙ ap (option_map (λ (r : Row). r.values)) (find_read (λ (r : Row). bytes_eq r.id id) row_of f.entries.items)
  where
    go : (entry : Option Entry) → option_map raw_values (option_map (λ e. e.1) entry) ≡ option_map (λ (r : Row). r.values) (option_map row_of entry)
    go None = refl
    go (Some entry) = refl

pub returns : goal.returns
returns c = c.get_raw.ensures ∙ values_of_rows (found_of c.args.options.now) c.args.argument.now
