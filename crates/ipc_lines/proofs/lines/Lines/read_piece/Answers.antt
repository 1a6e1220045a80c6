use Rattle.std.proofs.Common.{rules, ◌≡◌, ◌-◌, ◌∙◌, length, sym, eqb-true}
use Rattle.ipc_lines.proofs.LineLemmas.{fed_piece, last_piece, none_shown, open_piece}
use Rattle.ipc_lines.proofs.lines.Lines.read_piece.Goals.{in-Some, in-None, in-None-2}
use Rattle.ipc_lines.proofs.lines.Lines.read_piece.Goals as goal

pub returns-clause-read : goal.returns-clause-read
returns-clause-read g c =
    let filled = rw c.in-Ok.is at c.fill_buf.follows.holds-at-none in
    let items = c.in_ok-extend_from_slice.ensures.items in
    let drops = c.consume.ensures.bytes in
    let long : c.len.result ≡ length c.args.self.now.line.items = search rules in
    let room : c.saturating_sub-room.result ≡ 1048577 - length c.args.self.now.line.items = rw long at c.saturating_sub-room.ensures in
    elim c.match-memchr.branch [
      | in-Some w ↦ rw w.end-is (fed_piece _ _ _ _ _ _ _ _ _
          (c.in-Ok.ensures.front, c.in-Ok.ensures.end, filled.0, filled.1, rw w.end-is at drops) w.in-Some.ensures (rw w.end-is at items))
      | in-None w ↦ rw w.end-is (last_piece _ _ _ _ _ _ _ c.saturating_sub-room.result
          (c.in-Ok.ensures.front, c.in-Ok.ensures.end, filled.0, filled.1, rw w.end-is at drops) room
          (none_shown _ c.min.result _ c.min.ensures (eqb-true _ _ (sym w.is_empty.ensures ∙ w.if-is_empty.true))) (rw w.end-is at items))
      | in-None-2 w ↦ rw w.end-is (open_piece _ _ _ _ _ _ _ c.min.result
          (c.in-Ok.ensures.front, c.in-Ok.ensures.end, filled.0, filled.1, rw w.end-is at drops) w.in-None.ensures (rw w.end-is at items))
    ]
