-- Lists in two orders: the one is the other, mapped, with two parts exchanged. So are a list that is mapped
-- where it comes second and the other so; and such lists have one length. Assumes nothing.
use Rattle.std.proofs.Common.{◌≡◌, refl, sym, ap, ap₂, ◌∙◌, List, [], ◌∷◌, ◌++◌, map, append_assoc, arith}
use Rattle.std.proofs.Common.{length, length-append}
use Rattle.std.proofs.lemmas.List.{map-append, length-map}

-- two lists, the one the mapped other with two parts exchanged
pub record Swaps {A : Type 0} (on : A → A) (xs ys : List A) : Type 0 where
  pub first : List A
  pub former : List A
  pub latter : List A
  pub here : xs ≡ first ++ (former ++ latter)
  pub there : ys ≡ map on first ++ (map on latter ++ map on former)

-- behind what the map fixes
swaps_behind : {A : Type 0} {on : A → A} {xs ys : List A} (p : List A) → map on p ≡ p → Swaps on xs ys
    → Swaps on (p ++ xs) (p ++ ys)
swaps_behind {on = on} p fixed k = record {
  first = p ++ k.first;
  former = k.former;
  latter = k.latter;
  here = ap (λ zs. p ++ zs) k.here ∙ sym (append_assoc p k.first (k.former ++ k.latter));
  there =
      ap₂ (λ q zs. q ++ zs) (sym fixed) k.there
      ∙ sym (append_assoc (map on p) (map on k.first) (map on k.latter ++ map on k.former))
      ∙ ap (λ q. q ++ (map on k.latter ++ map on k.former)) (sym (map-append on p k.first));
}

-- such lists in two parts
pub swaps_parts : {A : Type 0} {on : A → A} (p xs xs' ys ys' : List A) → map on p ≡ p
    → Swaps on (xs ++ xs') (ys ++ ys')
    → Swaps on ((p ++ xs) ++ xs') ((p ++ ys) ++ ys')
swaps_parts p xs xs' ys ys' fixed k =
    rw (append_assoc p xs xs', append_assoc p ys ys') (swaps_behind p fixed k)

-- back again, each of a list
mapped_back : {A : Type 0} (f g : A → A) → ((x : A) → f (g x) ≡ x) → (xs : List A) → map f (map g xs) ≡ xs
mapped_back f g h [] = refl
mapped_back f g h (x ∷ xs) = ap₂ (λ y ys. y ∷ ys) (h x) (mapped_back f g h xs)

-- two lists, of which the one is mapped where it comes second
pub crossed : {A : Type 0} (f g : A → A) → ((x : A) → f (g x) ≡ x) → (p p' xs ys : List A) → map f p ≡ p'
    → Swaps f ((p ++ xs) ++ map g ys) ((p' ++ ys) ++ map f xs)
crossed f g h p p' xs ys e = record {
  first = p;
  former = xs;
  latter = map g ys;
  here = append_assoc p xs (map g ys);
  there =
      append_assoc p' ys (map f xs)
      ∙ ap₂ (λ q zs. q ++ (zs ++ map f xs)) (sym e) (sym (mapped_back f g h ys));
}

-- the same of lists in two parts
pub crossed_parts : {A : Type 0} (f g : A → A) → ((x : A) → f (g x) ≡ x) → (xs xs' ys ys' : List A)
    → Swaps f ((xs ++ xs') ++ (map g ys ++ map g ys')) ((ys ++ ys') ++ (map f xs ++ map f xs'))
crossed_parts f g h xs xs' ys ys' =
    rw (sym (map-append g ys ys'), sym (map-append f xs xs')) (crossed f g h [] [] (xs ++ xs') (ys ++ ys') refl)

-- they are of one length
pub swaps_length : {A : Type 0} {on : A → A} {xs ys : List A} → Swaps on xs ys → length ys ≡ length xs
swaps_length {on = on} k =
    ap length k.there
    ∙ omega (
      arith,
      length-append (map on k.first) (map on k.latter ++ map on k.former),
      length-append (map on k.latter) (map on k.former),
      length-append k.first (k.former ++ k.latter),
      length-append k.former k.latter,
      length-map k.first on,
      length-map k.former on,
      length-map k.latter on,
    )
    ∙ ap length (sym k.here)
