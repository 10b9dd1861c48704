-- Functions that agree on the contents of a state make the same state of it.
use Rattle.std.proofs.Common.{◌≡◌, List, [], ◌∷◌, All, map, refl, ap, ◌∙◌}
use Rattle.std.proofs.lemmas.List.Elements.{All-head, All-tail}
use Rattle.b2_types.specs.declared.version.PartOf.{PartOf}
use Rattle.b2_types.specs.declared.version.VersionOf.{VersionOf}
use Rattle.b2_model.specs.State.{State}
use Rattle.b2_model.specs.Contents.{part_by, version_by, state_by}
use Rattle.contents_agree.specs.ContentsOf.{contents_of}
use Rattle.contents_agree.proofs.Each.{Each, each_version}

-- functions that agree on each of a list
pub same_map : {X Y : Type 0} (f g : X → Y) (xs : List X) → All (λ x. f x ≡ g x) xs → map f xs ≡ map g xs
same_map f g [] all = refl
same_map f g (x ∷ xs) all =
    ap (λ y. y ∷ map f xs) (All-head (λ x. f x ≡ g x) x xs all) ∙ ap (λ ys. g x ∷ ys) (same_map f g xs (All-tail (λ x. f x ≡ g x) x xs all))

module _ {C D : Type 0} (f g : C → D) where
  same_part : (p : PartOf C) → f p.content ≡ g p.content → part_by f p ≡ part_by g p
  same_part p same = rw same refl

  same_version : (v : VersionOf C) → Each (λ c. f c ≡ g c) v → version_by f v ≡ version_by g v
  same_version v each =
      let content : map f v.content ≡ map g v.content = same_map f g v.content each.0 in
      let parts : map (part_by f) v.parts ≡ map (part_by g) v.parts = same_map (part_by f) (part_by g) v.parts (λ k d within. same_part _ (each.1 k d within)) in
      rw (content, parts) refl

  pub same_state : (M : State C) → All (λ c. f c ≡ g c) (contents_of M) → state_by f M ≡ state_by g M
  same_state M all =
      let each = each_version (λ c. f c ≡ g c) M all in
      let versions : map (version_by f) M.versions ≡ map (version_by g) M.versions = same_map (version_by f) (version_by g) M.versions (λ k d within. same_version _ (each k d within)) in
      rw versions refl
