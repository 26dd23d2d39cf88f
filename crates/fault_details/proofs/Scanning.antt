-- A line that is looked for in bytes that come one after another.
use Rattle.std.proofs.Common.{ℕ, ◌≡◌, ◌≢◌, ◌<◌, ◌≤◌, ◌+◌, ◌-◌, ◌^◌, ◌==◌, ◌⊎◌, inl, inr, List, [], ◌∷◌, ◌++◌, Bool, true, false, length, take, cond, refl, sym, ap, ◌∙◌, append_assoc, append-nil, length-append, arith, subst}
use Rattle.std.specs.Prelude.{MatchOption, Option, Some, None}
use Rattle.std.specs.Io.KnownBytes.{Consumes, IsAtEnd}
use Rattle.counted_devices.specs.DeviceStates.{DeviceStates}
use Rattle.counted_devices.specs.Deliveries.{Delivers}
use Rattle.counted_devices.proofs.Consuming.{Consumes-join}
use Rattle.std.specs.List.{flat_map}
use Rattle.std.proofs.Math.Seq.{take-append-add}
use Rattle.std.proofs.lemmas.Bool.{cases_lt, eqb-true, eqb-false, both_ways}
use Rattle.std.proofs.lemmas.List.{take-append-le, take-take, take_all, length-take, length-take-le}
use Rattle.std.proofs.lemmas.List.Elements.{All-append, All-nil}
use Rattle.counted_devices.specs.Cuts.{with_end, HasNoEnd, Splits}
use Rattle.counted_devices.proofs.CutLemmas.{Splits-join, Splits-none, Splits-line}
use Rattle.fault_details.specs.declared.found_line.FoundLine.{FoundLine}
use Rattle.fault_details.specs.declared.found_line.Scan.{Scan}
use Rattle.fault_details.specs.FoundLines.{Ends, EndsLine, FindsLine, IsEnded, IsLineOf, IsLineIn, IsMissing, IsScan, Takes, first_of, kept_after, most_kept}

-- what is kept of a part, and then of the bytes after it, is what is kept of both
kept_more : (k : ℕ) (part bytes : List ℕ) → take k part ++ take (k - length (take k part)) bytes ≡ take k (part ++ bytes)
kept_more k part bytes = elim (cases_lt k (length part)) [
  | inl lt ↦
      let none : k - length (take k part) ≡ 0 = omega (arith, length-take-le k part (omega arith)) in
      ap (λ (n : ℕ). take k part ++ take n bytes) none ∙ append-nil (take k part) ∙ sym (take-append-le k part bytes (omega arith))
  | inr ge ↦
      let whole : take k part ≡ part = take_all k part (omega arith) in
      let all : length part + (k - length part) ≡ k = omega arith in
      ap (λ (xs : List ℕ). xs ++ take (k - length xs) bytes) whole
      ∙ sym (take-append-add part bytes (k - length part)) ∙ ap (λ (n : ℕ). take n (part ++ bytes)) all
]

-- the same of what is kept with the first bytes
kept_joined : (part bytes old : List ℕ) → old ≡ take most_kept part → kept_after true old bytes ≡ take most_kept (part ++ bytes)
kept_joined part bytes old e =
    ap (λ (xs : List ℕ). xs ++ take (most_kept - length xs) bytes) e ∙ kept_more most_kept part bytes

kept_step : (b : Bool) (old part bytes : List ℕ) → old ≡ cond b (take most_kept part) []
    → kept_after b old bytes ≡ cond b (take most_kept (part ++ bytes)) []
kept_step true old part bytes e = kept_joined part bytes old e
kept_step false old part bytes e = e

first_step : (earlier : List (List ℕ)) (part bytes old : List ℕ) (n : ℕ) (b : Bool) → (n == 1) ≡ b → n ≡ length earlier + 1
    → old ≡ take most_kept (first_of earlier part)
    → kept_after b old bytes ≡ take most_kept (first_of earlier (part ++ bytes))
first_step [] part bytes old n true e counted h = kept_joined part bytes old h
first_step [] part bytes old n false e counted h = absurd (eqb-false n 1 e counted)
first_step (l ∷ earlier) part bytes old n true e counted h =
    let one : n ≡ 1 = eqb-true n 1 e in absurd (omega arith)
first_step (l ∷ earlier) part bytes old n false e counted h = h

-- bytes more of the line under way
pub scan_taken : (before bytes : List ℕ) (old new : Scan) → IsScan before old → HasNoEnd bytes → Takes bytes old new
    → IsScan (before ++ bytes) new
scan_taken before bytes old new s none t = record {
  earlier = s.earlier;
  part = s.part ++ bytes;
  splits = record {
    whole = ap (λ (xs : List ℕ). xs ++ bytes) s.splits.whole ∙ append_assoc (flat_map with_end s.earlier) s.part bytes;
    each = s.splits.each;
    partial = All-append (λ (b : ℕ). b ≢ 10) s.part bytes s.splits.partial none;
  };
  counted = t.under_way ∙ s.counted;
  fed = t.fed ∙ ap (λ (n : ℕ). n + length bytes) s.fed ∙ sym (length-append before bytes);
  before = t.begins ∙ s.before;
  below = rw (t.wanted, t.under_way) s.below;
  kept = rw (t.wanted, t.under_way) (t.kept ∙ kept_step (old.under_way == old.wanted) old.bytes.items s.part bytes s.kept);
  first = t.first ∙ first_step s.earlier s.part bytes old.first.items old.under_way (old.under_way == 1) refl s.counted s.first;
}

first_ended : (earlier : List (List ℕ)) (part : List ℕ) → first_of (earlier ++ part ∷ []) [] ≡ first_of earlier part
first_ended [] part = refl
first_ended (l ∷ earlier) part = refl

abbrev nothing : List ℕ
nothing = []

nothing_kept : (b : Bool) → nothing ≡ cond b (take most_kept nothing) nothing
nothing_kept true = refl
nothing_kept false = refl

still_below : (old new : Scan) → (old.under_way == old.wanted) ≡ false → EndsLine old new
    → (old.wanted ≡ 0) ⊎ (old.under_way ≤ old.wanted) → (new.wanted ≡ 0) ⊎ (new.under_way ≤ new.wanted)
still_below old new other t (inl none) = inl (t.wanted ∙ none)
still_below old new other t (inr le) =
    inr (omega (arith, t.wanted, t.under_way, le, eqb-false old.under_way old.wanted other))

not_there : (b : Bool) (old part : List ℕ) → b ≡ false → old ≡ cond b (take most_kept part) [] → old ≡ []
not_there true old part e h = absurd (both_ways true e refl)
not_there false old part e h = h

-- a line and its end
ended : (line : List ℕ) → HasNoEnd line → Splits (line ++ 10 ∷ []) (line ∷ []) []
ended line none = Splits-line [] line [] [] [] (All-nil (λ (b : ℕ). b ≢ 10)) none (Splits-none [] (All-nil (λ (b : ℕ). b ≢ 10)))

-- the end of the line under way
pub scan_ended : (before : List ℕ) (old new : Scan) → IsScan before old → (old.under_way == old.wanted) ≡ false → EndsLine old new
    → IsScan (before ++ 10 ∷ []) new
scan_ended before old new s other t =
    let lines = s.earlier ++ s.part ∷ [] in
    let splits : Splits (before ++ 10 ∷ []) lines [] =
    Splits-join before (10 ∷ []) s.earlier (s.part ∷ []) s.part [] s.splits (ended s.part s.splits.partial) in
    let fed : new.fed ≡ length (before ++ 10 ∷ []) =
    t.fed ∙ ap (λ (n : ℕ). n + 1) s.fed ∙ sym (length-append before (10 ∷ [])) in
    record {
      earlier = lines;
      part = [];
      splits = splits;
      counted = omega (arith, t.under_way, s.counted, length-append s.earlier (s.part ∷ []));
      fed = fed;
      before = t.begins ∙ sym t.fed ∙ fed ∙ ap (λ (xs : List ℕ). length xs) splits.whole
          ∙ ap (λ (xs : List ℕ). length xs) (append-nil (flat_map with_end lines));
      below = still_below old new other t s.below;
      kept = t.kept ∙ not_there (old.under_way == old.wanted) old.bytes.items s.part other s.kept
          ∙ nothing_kept (new.under_way == new.wanted);
      first = t.first ∙ s.first ∙ ap (take most_kept) (sym (first_ended s.earlier s.part));
    }

-- a line and its end, which isn't the one that is looked for
pub scan_line : (before line : List ℕ) (old mid new : Scan) → IsScan before old → HasNoEnd line → Takes line old mid
    → (mid.under_way == mid.wanted) ≡ false → EndsLine mid new → IsScan ((before ++ line) ++ 10 ∷ []) new
scan_line before line old mid new s none t other e =
    scan_ended (before ++ line) mid new (scan_taken before line old mid s none t) other e

kept_there : (b : Bool) (old part : List ℕ) → b ≡ true → old ≡ cond b (take most_kept part) [] → old ≡ take most_kept part
kept_there true old part e h = h
kept_there false old part e h = absurd (both_ways false refl e)

-- the line that is under way is the one that is looked for
module _ (scan : Scan) (line : FoundLine) (there : (scan.under_way == scan.wanted) ≡ true)
    (number : line.number ≡ scan.wanted) (begins : line.begins ≡ scan.begins) (kept : line.bytes.items ≡ scan.bytes.items)
    (first : line.first.items ≡ scan.first.items) where
  pub line_whole : (bytes : List ℕ) → line.has_end ≡ false → IsScan bytes scan → IsLineIn bytes line
  line_whole bytes unended s = record {
    earlier = s.earlier;
    whole = s.part;
    after = [];
    place = s.splits.whole ∙ ap (λ (xs : List ℕ). flat_map with_end s.earlier ++ xs) (sym (append-nil s.part));
    each = s.splits.each;
    none = s.splits.partial;
    end = rw unended refl;
    counted = number ∙ sym (eqb-true scan.under_way scan.wanted there) ∙ s.counted;
    before = begins ∙ s.before;
    kept = kept ∙ kept_there (scan.under_way == scan.wanted) scan.bytes.items s.part there s.kept;
    first = first ∙ s.first;
  }

  pub line_ended : (bytes : List ℕ) → line.has_end ≡ true → IsEnded bytes scan → IsLineIn bytes line
  line_ended bytes ended e =
      let s = e.scanned in
      record {
        earlier = s.earlier;
        whole = s.part;
        after = 10 ∷ e.after;
        place = e.whole ∙ ap (λ (xs : List ℕ). xs ++ 10 ∷ e.after) s.splits.whole
            ∙ append_assoc (flat_map with_end s.earlier) s.part (10 ∷ e.after);
        each = s.splits.each;
        none = s.splits.partial;
        end = rw ended (e.after, refl);
        counted = number ∙ sym (eqb-true scan.under_way scan.wanted there) ∙ s.counted;
        before = begins ∙ s.before;
        kept = kept ∙ kept_there (scan.under_way == scan.wanted) scan.bytes.items s.part there s.kept;
        first = first ∙ s.first;
      }

fewer : (scan : Scan) (n : ℕ) → scan.under_way ≡ n → (scan.under_way ≡ scan.wanted → ⊥)
    → (scan.wanted ≡ 0) ⊎ (scan.under_way ≤ scan.wanted) → (scan.wanted ≡ 0) ⊎ (n < scan.wanted)
fewer scan n e other (inl none) = inl none
fewer scan n e other (inr le) = inr (omega (arith, e, le, other))

missing : (bytes : List ℕ) (scan : Scan) (s : IsScan bytes scan) → (scan.wanted ≡ 0) ⊎ (length s.earlier + 1 < scan.wanted)
    → IsMissing bytes scan.wanted
missing bytes scan s (inl none) = inl none
missing bytes scan s (inr few) = inr (record { lines = s.earlier; rest = s.part; splits = s.splits; fewer = few })

-- another line is under way at the end
pub line_missing : (bytes : List ℕ) (scan : Scan) → (scan.under_way == scan.wanted) ≡ false → IsScan bytes scan
    → IsMissing bytes scan.wanted
line_missing bytes scan other s =
    missing bytes scan s (fewer scan (length s.earlier + 1) s.counted (eqb-false scan.under_way scan.wanted other) s.below)

-- a block was scanned up to its rest, after other bytes
pub record Scanned (before block rest : List ℕ) (scan : Scan) : Type 0 where
  pub seen : List ℕ
  pub whole : before ++ block ≡ seen ++ rest
  pub scanned : IsScan seen scan

module _ (before block rest : List ℕ) where
  pub scanned_first : (scan : Scan) → IsScan before scan → Scanned before block block scan
  scanned_first scan s = record { seen = before; whole = refl; scanned = s }

  module _ (line behind : List ℕ) (old mid : Scan) (p : Scanned before block rest old) (cut : rest ≡ line ++ 10 ∷ behind)
      (none : HasNoEnd line) (t : Takes line old mid) where
    whole_line : before ++ block ≡ (p.seen ++ line) ++ 10 ∷ behind
    whole_line = p.whole ∙ ap (λ (xs : List ℕ). p.seen ++ xs) cut ∙ sym (append_assoc p.seen line (10 ∷ behind))

    -- a line more, which isn't the one that is looked for
    pub scanned_on : (new : Scan) → (mid.under_way == mid.wanted) ≡ false → EndsLine mid new → Scanned before block behind new
    scanned_on new other e = record {
      seen = (p.seen ++ line) ++ 10 ∷ [];
      whole = whole_line ∙ sym (append_assoc (p.seen ++ line) (10 ∷ []) behind);
      scanned = scan_line p.seen line old mid new p.scanned none t other e;
    }

    -- the line that is looked for
    pub scanned_to : (mid.under_way == mid.wanted) ≡ true → IsEnded (before ++ block) mid
    scanned_to there = record {
      seen = p.seen ++ line;
      after = behind;
      whole = whole_line;
      scanned = scan_taken p.seen line old mid p.scanned none t;
      there = there;
    }

  -- a rest without an end
  pub scanned_all : (old new : Scan) → Scanned before block rest old → HasNoEnd rest → Takes rest old new
      → IsScan (before ++ block) new
  scanned_all old new p none t =
      subst (λ (xs : List ℕ). IsScan xs new) (sym p.whole) (scan_taken p.seen rest old new p.scanned none t)

-- what a reader gave, and a block more
pub scans_more : (ended : Bool) (a b c : Option (List ℕ)) (block : List ℕ) (old new : Scan)
    → Delivers a b (λ bytes. IsScan bytes old) → Consumes b c block
    → ((before : List ℕ) → IsScan before old → Ends ended (before ++ block) new) → Delivers a c (λ bytes. Ends ended bytes new)
scans_more ended a b c block old new d more goes = record {
  bytes = d.bytes ++ block;
  given = Consumes-join a b c d.bytes block d.given more;
  fact = goes d.bytes d.fact;
}

-- a reader that gave nothing more
pub scans_no_more : (a b c : Option (List ℕ)) (scan : Scan) → Delivers a b (λ bytes. IsScan bytes scan) → Consumes b c []
    → Delivers a c (λ bytes. IsScan bytes scan)
scans_no_more a b c scan d none = record {
  bytes = d.bytes ++ [];
  given = Consumes-join a b c d.bytes [] d.given none;
  fact = subst (λ (xs : List ℕ). IsScan xs scan) (sym (append-nil d.bytes)) d.fact;
}

module _ (reader : DeviceStates) (number wanted : ℕ) (same : wanted ≡ number) where
  -- the line that is under way at the end is the one, or there is none
  pub finds_last : (scan : Scan) (o : Option FoundLine) → Delivers reader.old reader.new (λ bytes. IsScan bytes scan)
      → IsAtEnd reader.new
      → ((bytes : List ℕ) → IsScan bytes scan → MatchOption o (IsMissing bytes wanted) (IsLineOf bytes wanted))
      → FindsLine reader number o
  finds_last scan None d end goes = inl (record {
    bytes = d.bytes;
    given = d.given;
    fact = (end, subst (λ (n : ℕ). IsMissing d.bytes n) same (goes d.bytes d.fact));
  })
  finds_last scan (Some line) d end goes = record {
    bytes = d.bytes;
    given = d.given;
    fact = subst (λ (n : ℕ). IsLineOf d.bytes n line) same (goes d.bytes d.fact);
  }

  -- the line whose end came is the one
  pub finds_ended : (scan : Scan) (line : FoundLine) → Delivers reader.old reader.new (λ bytes. IsEnded bytes scan)
      → line.number ≡ wanted → ((bytes : List ℕ) → IsEnded bytes scan → IsLineIn bytes line)
      → FindsLine reader number (Some line)
  finds_ended scan line d is goes = record {
    bytes = d.bytes;
    given = d.given;
    fact = (is ∙ same, goes d.bytes d.fact);
  }

-- a block's front, of a room that has it written at its front
pub block_front : (count len : ℕ) (room block rest : List ℕ) → room ≡ take len (block ++ rest) → count ≤ length block → count ≤ len
    → take count room ≡ take count block
block_front count len room block rest is inside least =
    ap (λ (xs : List ℕ). take count xs) is ∙ take-take count len (block ++ rest) least ∙ take-append-le count block rest inside

-- a block's front has at most so many bytes
pub front_long : (count : ℕ) (block : List ℕ) → length (take count block) ≤ count
front_long count block = omega (arith, length-take count block)

pub room_left : (fed given more count : ℕ) (block : List ℕ) → fed ≤ given → more ≡ given + count → more ≤ 2 ^ 62
    → fed + length (take count block) < 2 ^ 63
room_left fed given more count block few on most = omega (arith, front_long count block, few, on, most)

pub fed_on : (fed new given more count : ℕ) (block : List ℕ) → fed ≤ given → more ≡ given + count
    → new ≤ fed + length (take count block) → new ≤ more
fed_on fed new given more count block few on up = omega (arith, front_long count block, few, on, up)
