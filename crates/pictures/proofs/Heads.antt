-- The numbers of a column's clients, one after another.
use Rattle.std.proofs.Common.{ℕ, ◌≡◌, ◌<◌, ◌≤◌, ◌+◌, ◌∙◌, List, [], ◌++◌, ap, decimal, drop, get_or, length}
use Rattle.std.proofs.lemmas.List.{at_drop_more, at_drop_all}
use Rattle.labels.proofs.Rendering.{after_all, after_one}
use Rattle.pictures.specs.Strips.{numbers_from, word_at}

module _ (words clients : List ℕ) where
  -- one number on, and at the end
  numbers_more : (i d : ℕ) → i < length clients
      → numbers_from words i (drop i clients) ≡ (word_at words i ++ decimal (get_or clients i d)) ++ numbers_from words (i + 1) (drop (i + 1) clients)
  numbers_more i d within = at_drop_more (λ (cs : List ℕ). numbers_from words i cs) clients i d within

  numbers_end : (i : ℕ) → length clients ≤ i → numbers_from words i (drop i clients) ≡ []
  numbers_end i past = at_drop_all (λ (cs : List ℕ). numbers_from words i cs) clients i past

  -- with one number more, and with all
  pub numbers_step : (i client : ℕ) (done next all : List ℕ) → i < length clients → client ≡ get_or clients i client
      → done ++ numbers_from words i (drop i clients) ≡ all → next ≡ done ++ (word_at words i ++ decimal client)
      → next ++ numbers_from words (i + 1) (drop (i + 1) clients) ≡ all
  numbers_step i client done next all within is so_far added =
      let one = λ (n : ℕ). done ++ (word_at words i ++ decimal n) in
      let same : next ≡ one (get_or clients i client) = added ∙ ap one is in
      after_one done next (word_at words i ++ decimal (get_or clients i client)) (numbers_from words i (drop i clients))
      (numbers_from words (i + 1) (drop (i + 1) clients)) all (numbers_more i client within) so_far same

  pub numbers_last : (i : ℕ) (done all : List ℕ) → length clients ≤ i → done ++ numbers_from words i (drop i clients) ≡ all → done ≡ all
  numbers_last i done all past so_far = after_all done (numbers_from words i (drop i clients)) all (numbers_end i past) so_far
