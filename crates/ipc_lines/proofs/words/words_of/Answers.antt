use Rattle.std.proofs.Common.{◌≡◌, append_assoc}
use Rattle.std.proofs.lemmas.Str.{IsCharBoundary-start}
use Rattle.memchr.specs.Find.{places}
use Rattle.ipc_lines.specs.Words.{is_blank}
use Rattle.ipc_lines.proofs.WordLemmas.{places_are_blanks, words_are_cut, cut_before_blank, cut_behind_blank}
use Rattle.ipc_lines.proofs.words.words_of.Goals as goal

pub loop-end-init : goal.loop-end-init
loop-end-init c =
    let line = c.args.line.now in
    let found : c.into_iter-end-iterator.result ≡ places is_blank line = cc in
    record {
      boundary = IsCharBoundary-start line c.utf8.line;
      blanks = rw found (places_are_blanks line);
      words = rw (found, c.new-words.ensures.items) (words_are_cut line);
    }

pub range-requires : goal.range-requires
range-requires c =
    let blanks = rw c.in-Some.ensures.steps at c.loop-end.invariant.blanks in
    record {
      start_le_end = blanks.0;
      start_boundary = λ _. c.loop-end.invariant.boundary;
      end_boundary = cut_before_blank c.args.line.now c.in-Some.end blanks.1 blanks.2;
    }

pub loop-end-preserved : goal.loop-end-preserved
loop-end-preserved c =
    let blanks = rw c.in-Some.ensures.steps at c.loop-end.invariant.blanks in
    let words = rw c.in-Some.ensures.steps at c.loop-end.invariant.words in
    record {
      boundary = cut_behind_blank c.args.line.now c.in-Some.end c.utf8.line blanks.1 blanks.2;
      blanks = blanks.3;
      words = rw (c.in_ok-push_run.ensures, c.range.ensures.value, append_assoc) words;
    }

pub returns : goal.returns
returns c =
    let words = rw c.in-None.ensures.steps.0 at c.loop-end.invariant.words in
    rw (c.in_ok-push_run-2.ensures, c.range_from.ensures.value) words
