-- Document 02, Point 5: a record with counts of 32 bits, and what taking it over returns.
use Rattle.std.specs.Prelude.{Bool, true, false, List, ◌≡◌, ℕ, replicate}
use Rattle.std.specs.Bool.{then_some}
use Rattle.std.specs.Option.{is_some, unwrap_or}
use Rattle.std.proofs.Math.Option.{Option, none, some}
use Rattle.refusals.specs.Numbers.{why}
use Rattle.line.specs.Record.{Rec, Kept, Asked}
use Rattle.line.specs.Record.Kept.{k_43, k_46, k_4a, k_4b, k_eb}
use Rattle.latest.specs.declared.Latest.{Latest}
use Rattle.record.specs.View.{place_of, first_bytes, view}
use Rattle.record.specs.Posts.{blank_record}
use Rattle.record.specs.declared.Head.{Head}
use Rattle.record.specs.declared.Reader.{Reader}
use Rattle.takeover.specs.declared.Head32.{Head32}
use Rattle.takeover.specs.declared.Latest32.{Latest32}
use Rattle.takeover.specs.declared.Reader32.{Reader32}
use Rattle.takeover.specs.declared.TakenOver.{TakenOver}

-- what such a record could count to
abbrev pub limit32 : ℕ
limit32 = 4294967295

-- the data beside a flag, if it is true
abbrev pub perhaps : Bool → List ℕ → Option (List ℕ)
perhaps true d = some d
perhaps false d = none

-- the old record's latest messages, seen as `latest_of` shows today's
abbrev pub latest32_of : Latest32 → Kept → Option (List ℕ)
latest32_of l k_43 = perhaps l.has43 l.d43
latest32_of l k_46 = perhaps l.has46 l.d46
latest32_of l k_4a = perhaps l.has4a l.d4a
latest32_of l k_4b = perhaps l.has4b l.d4b
latest32_of l k_eb = perhaps l.haseb l.deb

-- the old record, seen as `view` shows today's
abbrev pub view32 : Reader32 → Rec
view32 o =
    let h = o.head in
    record {
      mode = h.mode;
      place = place_of h.place h.id (first_bytes h.len o.bytes) h.c1 h.c2;
      fed = h.fed;
      accepted = h.accepted;
      refused = h.refused;
      outside = h.outside;
      pending = h.pending;
      latest = latest32_of o.latest;
    }

-- its parts, those without meaning too, in a record of today
abbrev pub head_of : Head32 → Head
head_of h =
    record {
      mode = h.mode;
      place = h.place;
      id = h.id;
      c1 = h.c1;
      c2 = h.c2;
      len = h.len;
      accepted = h.accepted;
      refused = h.refused;
      outside = h.outside;
      pending = h.pending;
      fed = h.fed;
    }

-- the data beside each flag that is true: today's record has no room for what stands beside another, which has no meaning
abbrev pub latest_from : Latest32 → Latest
latest_from l =
    record {
      d43 = then_some l.has43 l.d43;
      d46 = then_some l.has46 l.d46;
      d4a = then_some l.has4a l.d4a;
      d4b = then_some l.has4b l.d4b;
      deb = then_some l.haseb l.deb;
    }

-- today's latest messages with a flag each: zeros where there is none
abbrev pub latest32_from : Latest → Latest32
latest32_from l =
    record {
      has43 = is_some l.d43;
      d43 = unwrap_or l.d43 (replicate 6 0);
      has46 = is_some l.d46;
      d46 = unwrap_or l.d46 (replicate 10 0);
      has4a = is_some l.d4a;
      d4a = unwrap_or l.d4a (replicate 33 0);
      has4b = is_some l.d4b;
      d4b = unwrap_or l.d4b (replicate 42 0);
      haseb = is_some l.deb;
      deb = unwrap_or l.deb (replicate 26 0);
    }

abbrev pub same_parts : Reader32 → Reader
same_parts o = record { head = head_of o.head; latest = latest_from o.latest; bytes = o.bytes }

-- in place of a record: the blank one of a mode that no reader has, which every call that reads bytes refuses by 1
abbrev pub no_record : Reader
no_record = blank_record 255

pub record TakeOverPost (o : Reader32) (x : TakenOver) : Type 0 where
  -- questions 1 and 2, in order; no byte is offered, so 3 has no part, and a full record is taken over
  pub asked : Asked (view32 o) ⊥ (λ v. (why x.refusal ≡ v) × (x.reader ≡ no_record)) ((why x.refusal ≡ 0) × (view x.reader ≡ view32 o))
  pub whole : why x.refusal ≡ 0 → x.reader ≡ same_parts o
