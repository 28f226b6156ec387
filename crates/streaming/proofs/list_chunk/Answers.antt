-- A part is what `took` says of its call. Where it takes nothing, the chunk is done.
use Rattle.std.proofs.Common.{◌≡◌, sym, ap, ◌∙◌, rules, ℕ, ◌-◌, length, drop, length-drop, arith, take_all}
use Rattle.record.specs.View.{view}
use Rattle.streaming.specs.Through.{through}
use Rattle.streaming.proofs.ChunkLaws.{Went, took}
use Rattle.streaming.proofs.list_chunk.Goals as goal
use Rattle.streaming.proofs.list_chunk.Goals.{After-list_part-p}

went : (c : After-list_part-p) → Went c.parts.g c.parts.rest.now c.list_part-p.result
went c =
    let i = c.parts.invariant in
    took c.parts.g c.parts.rest.now c.parts.lines c.list_part-p.result c.list_part-p.new.buf i.good (omega (arith, i.same, c.requires.1))
    c.list_part-p.ensures.part c.list_part-p.ensures.counts.1

pub returns-then-done : goal.returns-then-done
returns-then-done c =
    let w = went (goal.at.returns-then-done c).After-list_part-p in
    record {
      good = w.good;
      all = λ _. w.end c.if-done.true ∙ sym c.parts.invariant.rest;
      cut = λ z. absurd (let n : ◌≡◌ {A = ℕ} 0 1 = cc in omega arith);
    }

pub parts-preserved : goal.parts-preserved
parts-preserved c =
    let w = went (goal.at.parts-preserved c).After-list_part-p in
    let x = c.list_part-p.result in
    let l = c.parts.rest.now in
    record {
      same = search rules;
      good = w.good;
      rest =
          c.parts.invariant.rest
          ∙ w.left
          ∙ ap (through (view x.reader)) (sym (take_all (length l - x.taken) (drop x.taken l) (rw (length-drop x.taken l) (omega arith))));
    }
