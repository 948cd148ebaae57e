-- What a word is where it is in range and where it is not. Assumes nothing.
use Rattle.std.proofs.Common.{ℕ, ◌+◌, ◌*◌, ◌%◌, ◌≤◌, ◌<◌, ◌≡◌, List, get_or, set, lt-ltb, le-ltb}
use Rattle.control.specs.words.Words.{reference_room, track_words, node, put, track_word, put_track}

module _ (k : ℕ) (w : List ℕ) (n : ℕ) where
  pub node_in : n < reference_room → get_or w (8 * n + k) 0 ≡ node k w n
  unfolding node
  node_in h = simp (lt-ltb n reference_room h)

  pub node_out : reference_room ≤ n → 0 ≡ node k w n
  unfolding node
  node_out h = simp (le-ltb n reference_room h)

  pub put_in : (v : ℕ) → n < reference_room → set w (8 * n + k) (v % 65536) ≡ put k w n v
  unfolding put
  put_in v h = simp (lt-ltb n reference_room h)

  pub put_out : (v : ℕ) → reference_room ≤ n → w ≡ put k w n v
  unfolding put
  put_out v h = simp (le-ltb n reference_room h)

module _ (w : List ℕ) (i : ℕ) where
  pub track_in : i < track_words → get_or w i 0 ≡ track_word w i
  unfolding track_word
  track_in h = simp (lt-ltb i track_words h)

  pub put_track_in : (v : ℕ) → i < track_words → set w i (v % 65536) ≡ put_track w i v
  unfolding put_track
  put_track_in v h = simp (lt-ltb i track_words h)

  pub put_track_out : (v : ℕ) → track_words ≤ i → w ≡ put_track w i v
  unfolding put_track
  put_track_out v h = simp (le-ltb i track_words h)
