-- Chunks of lines, and what their lines show.
use Rattle.std.proofs.Common.{ℕ, ◌≡◌, List, [], ◌∷◌, ◌++◌, map, refl, sym, ap, ◌∙◌, append_assoc}
use Rattle.std.proofs.Common.{append-nil, Result}
use Rattle.std.specs.Prelude.{All}
use Rattle.std.specs.List.{AllZip, flat_map}
use Rattle.std.proofs.lemmas.List.Elements.{All-append, All-nil, All-cons}
use Rattle.counted_devices.specs.declared.judgement.Judgement.{Judgement}
use Rattle.counted_devices.specs.Cuts.{with_end, HasNoEnd}
use Rattle.counted_devices.specs.Judgements.{ShowsItem, ShowChunks}
use Rattle.counted_devices.proofs.Zips.{AllZip-push_both, AllZip-append}
use Rattle.counted_devices.proofs.CutLemmas.{ended_chunk, no_chunks, more_lines}

module _ {Item L : Type 0} (Shows : List ℕ → Result Item L → Type 0) where
  -- of a chunk's lines the first show that, and that rest is left
  pub record Shown (chunk : List ℕ) (judgements : List (Judgement Item L)) (rest : List ℕ) : Type 0
    where
      pub lines : List (List ℕ)
      pub whole : chunk ≡ flat_map with_end lines ++ rest
      pub each : All HasNoEnd lines
      pub shown : AllZip (ShowsItem Shows) lines judgements

  pub Shown-none : (chunk : List ℕ) → Shown chunk [] chunk
  Shown-none chunk = record { lines = []; whole = refl; each = All-nil HasNoEnd; shown = tt }

  ended_more : (lines : List (List ℕ)) (line tail : List ℕ) → flat_map with_end lines
      ++ (line ++ 10 ∷ tail) ≡ flat_map with_end (lines ++ line ∷ []) ++ tail
  ended_more [] line tail = sym (append_assoc line (10 ∷ []) tail)
      ∙ ap (λ (xs : List ℕ). xs ++ tail) (sym (append-nil (with_end line)))
  ended_more (first ∷ lines) line tail =
      append_assoc (with_end first) (flat_map with_end lines) (line ++ 10 ∷ tail)
      ∙ ap (λ (xs : List ℕ). with_end first ++ xs) (ended_more lines line tail)
      ∙ sym (append_assoc (with_end first) (flat_map with_end (lines ++ line ∷ [])) tail)

  -- a line more
  pub Shown-line : (chunk rest line tail : List ℕ) (judgements : List (Judgement Item L))
      (judgement : Judgement Item L) → Shown chunk judgements rest → rest ≡ line ++ 10 ∷ tail
      → HasNoEnd line → ShowsItem Shows line judgement
      → Shown chunk (judgements ++ judgement ∷ []) tail
  Shown-line chunk rest line tail judgements judgement s cut none shows = record {
    lines = s.lines ++ line ∷ [];
    whole = s.whole ∙ ap (λ (xs : List ℕ). flat_map with_end s.lines ++ xs) cut
        ∙ ended_more s.lines line tail;
    each = All-append HasNoEnd s.lines (line ∷ []) s.each
        (All-cons HasNoEnd line [] none (All-nil HasNoEnd));
    shown = AllZip-push_both (ShowsItem Shows) s.lines judgements line judgement s.shown shows;
  }

  -- the last line
  pub Shown-last : (chunk rest : List ℕ) (judgements : List (Judgement Item L))
      (judgement : Judgement Item L) → Shown chunk judgements rest → HasNoEnd rest
      → ShowsItem Shows rest judgement
      → ShowChunks Shows (chunk ∷ []) (judgements ++ judgement ∷ [])
  Shown-last chunk rest judgements judgement s none shows = record {
    lines = s.lines ++ rest ∷ [];
    cut = ended_chunk chunk s.lines rest (record {
      whole = s.whole;
      each = s.each;
      partial = none;
    });
    shown = AllZip-push_both (ShowsItem Shows) s.lines judgements rest judgement s.shown shows;
  }

  -- runs, each of a chunk's lines
  pub show_all : {A B : Type 0} (text : A → List ℕ) (items : B
      → List (Judgement Item L)) (chunks : List A) (runs : List B)
      → AllZip (λ chunk run. ShowChunks Shows (text chunk ∷ []) (items run)) chunks runs
      → ShowChunks Shows (map text chunks) (flat_map items runs)
  show_all text items [] [] h = record { lines = []; cut = no_chunks; shown = tt }
  show_all text items [] (run ∷ runs) h = absurd h
  show_all text items (chunk ∷ chunks) [] h = absurd h
  show_all text items (chunk ∷ chunks) (run ∷ runs) h =
      let one = h.0 in
      let more = show_all text items chunks runs h.1 in
      record {
        lines = one.lines ++ more.lines;
        cut = more_lines (text chunk) (map text chunks) one.lines more.lines one.cut more.cut;
        shown = AllZip-append (ShowsItem Shows) one.lines (items run) more.lines
            (flat_map items runs) one.shown more.shown;
      }
