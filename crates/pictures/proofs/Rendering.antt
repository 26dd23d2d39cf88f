-- Where the dots stand, one after another.
use Rattle.std.proofs.Common.{ℕ, ◌≡◌, ◌<◌, ◌≤◌, ◌+◌, List, [], ◌++◌, ◌∙◌, ap, append_assoc, length, get_or, drop}
use Rattle.std.proofs.lemmas.List.{at_drop_more, at_drop_all}
use Rattle.scenes.specs.declared.scene.Dot.{Dot}
use Rattle.scenes.specs.declared.scene.Scene.{Scene}
use Rattle.labels.proofs.Rendering.{after_all, after_one}
use Rattle.markup.specs.Markup.{Markup, both, rendered}
use Rattle.pictures.specs.Dots.{corner, corners}
use Rattle.pictures.specs.Marks.{corner_in, corners_in}

module _ (scene : Scene) (dots : List Dot) where
  -- one dot on, and at the end
  corners_more : (i : ℕ) (d : Dot) → i < length dots
      → corners scene i (drop i dots) ≡ corner scene i (get_or dots i d) ++ corners scene (i + 1) (drop (i + 1) dots)
  corners_more i d within = at_drop_more (λ (ds : List Dot). corners scene i ds) dots i d within

  corners_end : (i : ℕ) → length dots ≤ i → corners scene i (drop i dots) ≡ []
  corners_end i past = at_drop_all (λ (ds : List Dot). corners scene i ds) dots i past

  -- with one dot more, and with all
  pub corners_step : (i : ℕ) (d : Dot) (done next all : List ℕ) → i < length dots → done ++ corners scene i (drop i dots) ≡ all
      → next ≡ done ++ corner scene i (get_or dots i d) → next ++ corners scene (i + 1) (drop (i + 1) dots) ≡ all
  corners_step i d done next all within so_far added =
      after_one done next (corner scene i (get_or dots i d)) (corners scene i (drop i dots)) (corners scene (i + 1) (drop (i + 1) dots)) all
      (corners_more i d within) so_far added

  pub corners_last : (i : ℕ) (done all : List ℕ) → length dots ≤ i → done ++ corners scene i (drop i dots) ≡ all → done ≡ all
  corners_last i done all past so_far = after_all done (corners scene i (drop i dots)) all (corners_end i past) so_far

-- the same of a strip: with one dot more, and with all
module _ (scene : Scene) (strip : ℕ) (dots : List Dot) where
  pub corners_in_step : (i : ℕ) (d : Dot) (done next all : List ℕ) → i < length dots → done ++ corners_in scene strip i (drop i dots) ≡ all
      → next ≡ done ++ corner_in scene strip i (get_or dots i d) → next ++ corners_in scene strip (i + 1) (drop (i + 1) dots) ≡ all
  corners_in_step i d done next all within so_far added =
      after_one done next (corner_in scene strip i (get_or dots i d)) (corners_in scene strip i (drop i dots))
      (corners_in scene strip (i + 1) (drop (i + 1) dots)) all (at_drop_more (λ (ds : List Dot). corners_in scene strip i ds) dots i d within)
      so_far added

  pub corners_in_last : (i : ℕ) (done all : List ℕ) → length dots ≤ i → done ++ corners_in scene strip i (drop i dots) ≡ all → done ≡ all
  corners_in_last i done all past so_far =
      after_all done (corners_in scene strip i (drop i dots)) all (at_drop_all (λ (ds : List Dot). corners_in scene strip i ds) dots i past) so_far

-- three pieces one after another
regroup : (first one two three : List ℕ) → ((first ++ one) ++ two) ++ three ≡ first ++ (one ++ (two ++ three))
regroup first one two three =
    let inner : ((first ++ one) ++ two) ++ three ≡ (first ++ one) ++ (two ++ three) = append_assoc (first ++ one) two three in
    let outer : (first ++ one) ++ (two ++ three) ≡ first ++ (one ++ (two ++ three)) = append_assoc first one (two ++ three) in
    inner ∙ outer

pub three_added : (a b d : Markup) (start one two three : List ℕ) → one ≡ start ++ rendered a → two ≡ one ++ rendered b → three ≡ two ++ rendered d
    → three ≡ start ++ rendered (both a (both b d))
unfolding rendered
three_added a b d start one two three first second third =
    third ∙ ap (λ (l : List ℕ). l ++ rendered d) (second ∙ ap (λ (l : List ℕ). l ++ rendered b) first) ∙ regroup start (rendered a) (rendered b) (rendered d)
