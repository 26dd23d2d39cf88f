-- The ranges of bars, from left to right: what is still to be said after those that were said.
use Rattle.std.proofs.Common.{ℕ, ◌≡◌, ◌≤◌, Bool, drop, length, true, false, List, [], ◌∷◌, ◌++◌, append_assoc, cond, true≢false, refl, ap, sym, ◌∙◌}
use Rattle.std.proofs.lemmas.List.{drop_all}
use Rattle.markup.specs.Escapes.{escaped}
use Rattle.markup.specs.Markup.{Markup, both, rendered, text}
use Rattle.scenes.specs.declared.gaps.Gap.{Gap}
use Rattle.scenes.specs.declared.scene.Bar.{Bar}
use Rattle.draw_command.specs.Ranges.{is_cut, range_markup, ranges_markup, ranges_of, set_before}
use Rattle.draw_command.specs.declared.words.TheConstants.{AND}

-- the first of the ranges begins with that bar
abbrev pub begun : Bar → List (Bar × Bar) → List (Bar × Bar)
begun from [] = []
begun from (range ∷ ranges) = (from, range.1) ∷ ranges

-- what is still to be said, where a range goes from one bar to another so far
abbrev pub still : List Gap → Bar → Bar → List Bar → Markup
still gaps from to bars = ranges_markup (begun from (ranges_of gaps (to ∷ bars)))

begun_cond : (bar : Bar) (range : Bar × Bar) (ranges : List (Bar × Bar)) (b : Bool)
    → begun bar (cond b ((bar, bar) ∷ range ∷ ranges) ((bar, range.1) ∷ ranges)) ≡ cond b ((bar, bar) ∷ range ∷ ranges) ((bar, range.1) ∷ ranges)
begun_cond bar range ranges true = refl
begun_cond bar range ranges false = refl

-- ranges with a bar before them begin with it
begun_before : (gaps : List Gap) (bar : Bar) (ranges : List (Bar × Bar)) → begun bar (set_before gaps bar ranges) ≡ set_before gaps bar ranges
begun_before gaps bar [] = refl
begun_before gaps bar (range ∷ ranges) = begun_cond bar range ranges (is_cut gaps bar range.0)

pub still_first : (gaps : List Gap) (first : Bar) (rest : List Bar) → still gaps first first rest ≡ ranges_markup (ranges_of gaps (first ∷ rest))
still_first gaps first rest = ap ranges_markup (begun_before gaps first (ranges_of gaps rest))

-- one bar more, without calls left out before it
joined : (from to bar end : Bar) (ranges : List (Bar × Bar)) (b : Bool) → b ≡ false
    → begun from (cond b ((to, to) ∷ (bar, end) ∷ ranges) ((to, end) ∷ ranges)) ≡ (from, end) ∷ ranges
joined from to bar end ranges true is = absurd (true≢false is)
joined from to bar end ranges false is = refl

-- one bar more, after calls that are left out
parted : (from to bar end : Bar) (ranges : List (Bar × Bar)) (b : Bool) → b ≡ true
    → begun from (cond b ((to, to) ∷ (bar, end) ∷ ranges) ((to, end) ∷ ranges)) ≡ (from, to) ∷ (bar, end) ∷ ranges
parted from to bar end ranges true is = refl
parted from to bar end ranges false is = absurd (true≢false (sym is))

heads_cond : (bar : Bar) (range : Bar × Bar) (ranges : List (Bar × Bar)) (b : Bool)
    → (end : Bar) × (rest : List (Bar × Bar)) × (cond b ((bar, bar) ∷ range ∷ ranges) ((bar, range.1) ∷ ranges) ≡ (bar, end) ∷ rest)
heads_cond bar range ranges true = (bar, range ∷ ranges, refl)
heads_cond bar range ranges false = (range.1, ranges, refl)

heads : (gaps : List Gap) (bar : Bar) (ranges : List (Bar × Bar)) → (end : Bar) × (rest : List (Bar × Bar)) × (set_before gaps bar ranges ≡ (bar, end) ∷ rest)
heads gaps bar [] = (bar, [], refl)
heads gaps bar (range ∷ ranges) = heads_cond bar range ranges (is_cut gaps bar range.0)

still_on : (gaps : List Gap) (from to bar : Bar) (bars : List Bar) → is_cut gaps to bar ≡ false → still gaps from to (bar ∷ bars) ≡ still gaps from bar bars
still_on gaps from to bar bars whole =
    let head = heads gaps bar (ranges_of gaps bars) in
    ap (λ (ranges : List (Bar × Bar)). ranges_markup (begun from (set_before gaps to ranges))) head.2
    ∙ ap ranges_markup (joined from to bar head.0 head.1 (is_cut gaps to bar) whole)
    ∙ sym (ap (λ (ranges : List (Bar × Bar)). ranges_markup (begun from ranges)) head.2)

still_cut : (gaps : List Gap) (from to bar : Bar) (bars : List Bar) → is_cut gaps to bar ≡ true
    → still gaps from to (bar ∷ bars) ≡ both (range_markup (from, to)) (both (text AND.now) (still gaps bar bar bars))
still_cut gaps from to bar bars cut =
    let head = heads gaps bar (ranges_of gaps bars) in
    ap (λ (ranges : List (Bar × Bar)). ranges_markup (begun from (set_before gaps to ranges))) head.2
    ∙ ap ranges_markup (parted from to bar head.0 head.1 (is_cut gaps to bar) cut)
    ∙ ap (λ (m : Markup). both (range_markup (from, to)) (both (text AND.now) m)) (sym (ap (λ (ranges : List (Bar × Bar)). ranges_markup (begun bar ranges)) head.2))

plainly : (words : List ℕ) → escaped words ≡ rendered (text words)
unfolding rendered
plainly words = refl

three : (a b m : Markup) → rendered (both a (both b m)) ≡ rendered a ++ (rendered b ++ rendered m)
unfolding rendered
three a b m = refl

-- the bytes of what was said and of what is still to be said stay the same
pub goes_on : (gaps : List Gap) (from to bar : Bar) (bars : List Bar) (page whole : List ℕ) → is_cut gaps to bar ≡ false
    → page ++ rendered (still gaps from to (bar ∷ bars)) ≡ whole → page ++ rendered (still gaps from bar bars) ≡ whole
goes_on gaps from to bar bars page whole same all = ap (λ (m : Markup). page ++ rendered m) (sym (still_on gaps from to bar bars same)) ∙ all

pub begins_anew : (gaps : List Gap) (from to bar : Bar) (bars : List Bar) (page ranged anded whole : List ℕ) → is_cut gaps to bar ≡ true
    → ranged ≡ page ++ rendered (range_markup (from, to)) → anded ≡ ranged ++ escaped AND.now
    → page ++ rendered (still gaps from to (bar ∷ bars)) ≡ whole → anded ++ rendered (still gaps bar bar bars) ≡ whole
begins_anew gaps from to bar bars page ranged anded whole cut range and all =
    let a = rendered (range_markup (from, to)) in
    let b = rendered (text AND.now) in
    let m = rendered (still gaps bar bar bars) in
    ap (λ (l : List ℕ). l ++ m) (and ∙ ap (λ (l : List ℕ). ranged ++ l) (plainly AND.now) ∙ ap (λ (l : List ℕ). l ++ b) range) ∙ append_assoc (page ++ a) b m ∙ append_assoc page a (b ++ m)
    ∙ ap (λ (l : List ℕ). page ++ l) (sym (three (range_markup (from, to)) (text AND.now) (still gaps bar bar bars)))
    ∙ ap (λ (l : Markup). page ++ rendered l) (sym (still_cut gaps from to bar bars cut)) ∙ all

-- the last range
pub ends : (gaps : List Gap) (from to : Bar) (bars : List Bar) (i : ℕ) (page new whole : List ℕ) → length bars ≤ i → page ++ rendered (still gaps from to (drop i bars)) ≡ whole
    → new ≡ page ++ rendered (range_markup (from, to)) → new ≡ whole
ends gaps from to bars i page new whole over all added = added ∙ sym (ap (λ (bs : List Bar). page ++ rendered (still gaps from to bs)) (drop_all i bars over)) ∙ all
