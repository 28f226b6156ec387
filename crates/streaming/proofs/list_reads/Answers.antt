-- The bytes of a read, listed after those before it.
use mathlib.Core.Path.{◌≡◌, sym, ap, ◌∙◌}
use borrow.Author.Rules.{rules}
use Rattle.std.proofs.Common.{ℕ, List, ◌++◌, ◌+◌, ◌<◌, length, take, length-append, arith}
use Rattle.record.specs.View.{view}
use Rattle.refusals.specs.Numbers.{why}
use Rattle.streaming.specs.Through.{until, through}
use Rattle.streaming.specs.Posts.{through_of}
use Rattle.streaming.proofs.ReadsLaws.{refuses, refuses_none, further, countable, nearer, brought_long}
use Rattle.streaming.proofs.list_reads.Goals as goal

pub returns-then-refused : goal.returns-then-refused
returns-then-refused c =
    let i = c.loop-input.invariant in
    let s = take c.unwrap_or-n.result c.read_some-got.new.bytes in
    let e = c.list_chunk-c.ensures.all (search rules) in
    record {
      bytes = i.taken ++ s;
      read = omega (arith, length-append i.taken s, i.count, brought_long _ _ _ c.read_some-got.new.bytes c.read_some-got.ensures c.unwrap_or-n.ensures (search rules));
      after = further c.args.first.reader c.loop-input.c.reader i.taken s c.list_chunk-c.result i.after e;
      rest = λ z. absurd (refuses c.list_chunk-c.result.refusal (sym c.is_some-refused.ensures ∙ c.if-refused.true) z);
      last = λ y z. absurd (refuses c.list_chunk-c.result.refusal (sym c.is_some-refused.ensures ∙ c.if-refused.true) z);
    }

-- where all of the read is counted
module _ (c : goal.Else-refused) where
  abbrev chunk : List ℕ
  chunk = take c.unwrap_or-n.result c.read_some-got.new.bytes

  listed : through_of c.list_chunk-c.result ≡ through (view c.loop-input.c.reader) chunk
  listed = c.list_chunk-c.ensures.all (search rules)

  more : length (c.loop-input.invariant.taken ++ chunk) ≡ c.loop-input.read + c.unwrap_or-n.result
  more = omega (arith, length-append c.loop-input.invariant.taken chunk, c.loop-input.invariant.count, brought_long _ _ _ c.read_some-got.new.bytes c.read_some-got.ensures c.unwrap_or-n.ensures (search rules))

  counted : why c.list_chunk-c.result.refusal ≡ 0
  counted = refuses_none c.list_chunk-c.result.refusal (sym c.is_some-refused.ensures ∙ c.if-refused.false)

  after : until 0 (view c.list_chunk-c.result.reader) ≡ through (view c.args.first.reader) (c.loop-input.invariant.taken ++ chunk)
  after =
      let i = c.loop-input.invariant in
      ap (λ (n : ℕ). until n (view c.list_chunk-c.result.reader)) (sym counted)
      ∙ further c.args.first.reader c.loop-input.c.reader i.taken chunk c.list_chunk-c.result i.after listed

  has_bytes : 0 < length chunk
  has_bytes = omega (arith, brought_long _ _ _ c.read_some-got.new.bytes c.read_some-got.ensures c.unwrap_or-n.ensures (search rules), c.if-ended.false)

pub overflow_add-read : goal.overflow_add-read
overflow_add-read c =
    let l = c.loop-input.invariant.taken ++ chunk c in
    omega (arith, more c, countable c.args.first.reader c.list_chunk-c.result.reader l c.requires.1 (after c))

pub loop-input-smaller : goal.loop-input-smaller
loop-input-smaller c =
    nearer c.loop-input.c.reader (chunk c) c.list_chunk-c.result (listed c) (counted c) (has_bytes c)

pub loop-input-preserved : goal.loop-input-preserved
loop-input-preserved c =
    let i = c.loop-input.invariant in
    record {
      long = search rules;
      room = search rules;
      good = c.list_chunk-c.ensures.good;
      taken = i.taken ++ chunk c;
      after = after c;
      refusal = counted c;
      count = more c;
    }
