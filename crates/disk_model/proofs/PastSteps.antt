-- A disk that keeps its past goes on by one change.
use Rattle.std.proofs.Common.{◌≡◌, ◌≢◌, ◌⊎◌, inl, inr, ⊎_elim, ℕ, ◌≤◌, ◌<◌, ◌+◌, List, [], ◌∷◌, ◌++◌, length, take, get_or, map, reverse, Bool, true, false, cond, refl, sym, ap, subst, ◌∙◌, arith, length-append}
use Rattle.std.proofs.lemmas.List.{reverse-append, take-append-le, take_all, take_more}
use Rattle.std.proofs.lemmas.Bool.{cases_lt}
use Rattle.std.specs.List.{filter}
use Rattle.disk_model.specs.declared.area.Area.{Area}
use Rattle.disk_model.specs.declared.area.Area.TheVariants.{Log0, Log1, Blobs}
use Rattle.disk_model.specs.declared.area.DiskImage.{DiskImage}
use Rattle.disk_model.specs.declared.changes.Change.{Change}
use Rattle.disk_model.specs.declared.changes.Change.TheVariants.{Write, Cut, Sync}
use Rattle.disk_model.specs.declared.changes.Done.{Done}
use Rattle.disk_model.specs.Image.{bytes_of, put_in, same_area, SameBut}
use Rattle.disk_model.specs.Steps.{written, resized, Torn, Resized, TornIn, ResizedIn}
use Rattle.disk_model.specs.State.{DiskState, Elapses, Rests, Changes, NowReads, ReadsAfter, IsStable}
use Rattle.disk_model.specs.Changes.{read_after, MayHold, changes_in, image_after, MayBe}
use Rattle.disk_model.specs.Past.{past_state, MightHaveBeen, read_may_be}
use Rattle.disk_model.proofs.InAreas.{bytes_of-put_in, put_in-others, same_images, torn_in, torn_in-not, resized_in, resized_in-not}

area_cases : (a b : Area) → (b ≡ a) ⊎ (b ≢ a)
area_cases Log0 Log0 = inl refl
area_cases Log0 Log1 = inr (λ e. cc)
area_cases Log0 Blobs = inr (λ e. cc)
area_cases Log1 Log0 = inr (λ e. cc)
area_cases Log1 Log1 = inl refl
area_cases Log1 Blobs = inr (λ e. cc)
area_cases Blobs Log0 = inr (λ e. cc)
area_cases Blobs Log1 = inr (λ e. cc)
area_cases Blobs Blobs = inl refl

-- the changes of an area after one more
changes_more : (done : List Done) (d : Done) (a : Area) (b : Bool) → same_area d.area a ≡ b → changes_in a (done ++ d ∷ []) ≡ cond b (d.change ∷ changes_in a done) (changes_in a done)
changes_more done d a true same =
    let p : Done → Bool = λ e. same_area e.area a in
    ap (λ l. map (λ (e : Done). e.change) (filter p l)) (reverse-append done (d ∷ []))
    ∙ ap (λ b. map (λ (e : Done). e.change) (cond b (d ∷ filter p (reverse done)) (filter p (reverse done)))) same
changes_more done d a false same =
    let p : Done → Bool = λ e. same_area e.area a in
    ap (λ l. map (λ (e : Done). e.change) (filter p l)) (reverse-append done (d ∷ []))
    ∙ ap (λ b. map (λ (e : Done). e.change) (cond b (d ∷ filter p (reverse done)) (filter p (reverse done)))) same

image_bytes : (a : Area) (done : List Done) → bytes_of a (image_after done) ≡ read_after (changes_in a done)
image_bytes Log0 done = refl
image_bytes Log1 done = refl
image_bytes Blobs done = refl

elapses_more : (done : List Done) (d : Done) → Elapses (past_state done) (past_state (done ++ d ∷ []))
elapses_more done d = record {
  later = omega (arith, length-append done (d ∷ []));
  nothing_else = was;
  keeps = λ told t c le left. (left.0, left.1, omega (arith, left.2, length-append done (d ∷ [])), subst (λ l. MayBe l c) (sym (take-append-le left.0 done (d ∷ []) left.2)) left.3);
}
  where
    was : (t : ℕ) (c : DiskImage) → t ≤ length done → MightHaveBeen (done ++ d ∷ []) t c → MightHaveBeen done t c ⊎ MayBe (done ++ d ∷ []) c
    was t c le left = by_case (cases_lt (length done) left.0)
      where
        by_case : (length done < left.0) ⊎ (left.0 ≤ length done) → MightHaveBeen done t c ⊎ MayBe (done ++ d ∷ []) c
        by_case (inl now) = inr (subst (λ l. MayBe l c) (take_all left.0 (done ++ d ∷ []) (omega (arith, now, length-append done (d ∷ [])))) left.3)
        by_case (inr before) = inl (left.0, left.1, before, subst (λ l. MayBe l c) (take-append-le left.0 done (d ∷ []) before) left.3)

elapses_not : (s : DiskState) → Elapses s s
elapses_not s = record { later = omega arith; nothing_else = λ t c le left. inl left; keeps = λ told t c le left. left }

module _ (done : List Done) (call : ℕ) (a : Area) (change : Change) where
  abbrev pub one : Done
  one = record { call = call; area = a; change = change }

  here : changes_in a (done ++ one ∷ []) ≡ change ∷ changes_in a done
  here = changes_more done one a true (same a)
    where
      same : (a : Area) → same_area a a ≡ true
      same Log0 = refl
      same Log1 = refl
      same Blobs = refl

  other : (b : Area) → b ≢ a → changes_in b (done ++ one ∷ []) ≡ changes_in b done
  other b apart = changes_more done one b false (not_same a b apart)
    where
      not_same : (a b : Area) → b ≢ a → same_area a b ≡ false
      not_same Log0 Log0 apart = absurd (apart refl)
      not_same Log0 Log1 apart = refl
      not_same Log0 Blobs apart = refl
      not_same Log1 Log0 apart = refl
      not_same Log1 Log1 apart = absurd (apart refl)
      not_same Log1 Blobs apart = refl
      not_same Blobs Log0 apart = refl
      not_same Blobs Log1 apart = refl
      not_same Blobs Blobs apart = absurd (apart refl)

  pub image_more : image_after (done ++ one ∷ []) ≡ put_in a (read_after (change ∷ changes_in a done)) (image_after done)
  image_more = same_images _ _ (λ b. at b (area_cases a b))
    where
      new : List ℕ
      new = read_after (change ∷ changes_in a done)

      at : (b : Area) → (b ≡ a) ⊎ (b ≢ a) → bytes_of b (image_after (done ++ one ∷ [])) ≡ bytes_of b (put_in a new (image_after done))
      at b (inl same) = subst (λ k. bytes_of k (image_after (done ++ one ∷ [])) ≡ bytes_of k (put_in a new (image_after done))) (sym same)
          (image_bytes a (done ++ one ∷ []) ∙ ap read_after here ∙ sym (bytes_of-put_in a new (image_after done)))
      at b (inr apart) = image_bytes b (done ++ one ∷ []) ∙ ap read_after (other b apart) ∙ sym (image_bytes b done) ∙ sym (put_in-others a new (image_after done) b apart)

  -- an image that may be left came from one before by the step of the change
  came_from : (Step : List ℕ → List ℕ → Type 0) → ((cs : List Change) (c : List ℕ) → MayHold (change ∷ cs) c → (d : List ℕ) × MayHold cs d × Step d c)
      → (c : DiskImage) → MayBe (done ++ one ∷ []) c → (e : DiskImage) × MayBe done e × Step (bytes_of a e) (bytes_of a c) × SameBut a e c
  came_from Step split c now = (put_in a old.0 c, (λ b. before b (area_cases a b)), subst (λ l. Step l (bytes_of a c)) (sym (bytes_of-put_in a old.0 c)) old.2, λ b apart. sym (put_in-others a old.0 c b apart))
    where
      old : (d : List ℕ) × MayHold (changes_in a done) d × Step d (bytes_of a c)
      old = split (changes_in a done) (bytes_of a c) (subst (λ cs. MayHold cs (bytes_of a c)) here (now a))

      before : (b : Area) → (b ≡ a) ⊎ (b ≢ a) → MayHold (changes_in b done) (bytes_of b (put_in a old.0 c))
      before b (inl same) = subst (λ k. MayHold (changes_in k done) (bytes_of k (put_in a old.0 c))) (sym same) (subst (MayHold (changes_in a done)) (sym (bytes_of-put_in a old.0 c)) old.1)
      before b (inr apart) = subst (MayHold (changes_in b done)) (sym (put_in-others a old.0 c b apart)) (subst (λ cs. MayHold cs (bytes_of b c)) (other b apart) (now b))

-- a write that was begun, and kept or not
module _ (done : List Done) (call : ℕ) (a : Area) (at : ℕ) (piece : List ℕ) where
  abbrev wrote : Done
  wrote = one done call a (Write at piece)

  pub write_changes : (kept : Bool) (new : List Done) → new ≡ cond kept (done ++ wrote ∷ []) done → Changes (TornIn a at (length piece)) (past_state done) (past_state new)
  write_changes true new is = subst (λ l. Changes (TornIn a at (length piece)) (past_state done) (past_state l)) (sym is) (record {
    crash = λ c left. let from = came_from done call a (Write at piece) (Torn at (length piece)) (λ cs c held. held) c left in (from.0, from.1, record { here = from.2; others = from.3 });
    time = elapses_more done wrote;
  })
  write_changes false new is = subst (λ l. Changes (TornIn a at (length piece)) (past_state done) (past_state l)) (sym is) (record {
    crash = λ c left. (c, left, torn_in-not a at (length piece) c);
    time = elapses_not (past_state done);
  })

  pub write_reads : (new : List Done) → new ≡ done ++ wrote ∷ [] → NowReads a (written 0 at piece) (past_state done) (past_state new)
  write_reads new is m reads =
      ap (λ (i : DiskImage). put_in a (written 0 at piece (bytes_of a i)) i) reads
      ∙ ap (λ l. put_in a (written 0 at piece l) (image_after done)) (image_bytes a done)
      ∙ sym (image_more done call a (Write at piece))
      ∙ sym (ap image_after is)

  pub write_after : (kept : Bool) (new : List Done) → new ≡ cond kept (done ++ wrote ∷ []) done → ReadsAfter (TornIn a at (length piece)) (past_state done) (past_state new)
  write_after true new is m reads = (_, write_reads new is m reads, torn_in a at piece m)
  write_after false new is m reads = (m, reads ∙ sym (ap image_after is), torn_in-not a at (length piece) m)

-- a cut that was begun, and kept or not
module _ (done : List Done) (call : ℕ) (a : Area) (len : ℕ) where
  abbrev was_cut : Done
  was_cut = one done call a (Cut len)

  pub cut_changes : (kept : Bool) (new : List Done) → new ≡ cond kept (done ++ was_cut ∷ []) done → Changes (ResizedIn a len) (past_state done) (past_state new)
  cut_changes true new is = subst (λ l. Changes (ResizedIn a len) (past_state done) (past_state l)) (sym is) (record {
    crash = λ c left. let from = came_from done call a (Cut len) (Resized len) (λ cs c held. held) c left in (from.0, from.1, record { here = from.2; others = from.3 });
    time = elapses_more done was_cut;
  })
  cut_changes false new is = subst (λ l. Changes (ResizedIn a len) (past_state done) (past_state l)) (sym is) (record {
    crash = λ c left. (c, left, resized_in-not a len c);
    time = elapses_not (past_state done);
  })

  pub cut_reads : (new : List Done) → new ≡ done ++ was_cut ∷ [] → NowReads a (resized 0 len) (past_state done) (past_state new)
  cut_reads new is m reads =
      ap (λ (i : DiskImage). put_in a (resized 0 len (bytes_of a i)) i) reads
      ∙ ap (λ l. put_in a (resized 0 len l) (image_after done)) (image_bytes a done)
      ∙ sym (image_more done call a (Cut len))
      ∙ sym (ap image_after is)

  pub cut_after : (kept : Bool) (new : List Done) → new ≡ cond kept (done ++ was_cut ∷ []) done → ReadsAfter (ResizedIn a len) (past_state done) (past_state new)
  cut_after true new is m reads = (_, cut_reads new is m reads, resized_in a len m)
  cut_after false new is m reads = (m, reads ∙ sym (ap image_after is), resized_in-not a len m)

-- a sync
module _ (done : List Done) (call : ℕ) (a : Area) where
  abbrev synced : Done
  synced = one done call a Sync

  pub image_synced : image_after (done ++ synced ∷ []) ≡ image_after done
  image_synced = image_more done call a Sync ∙ same_images _ _ (λ b. at b (area_cases a b))
    where
      at : (b : Area) → (b ≡ a) ⊎ (b ≢ a) → bytes_of b (put_in a (read_after (changes_in a done)) (image_after done)) ≡ bytes_of b (image_after done)
      at b (inl same) = subst (λ k. bytes_of k (put_in a (read_after (changes_in a done)) (image_after done)) ≡ bytes_of k (image_after done)) (sym same) (bytes_of-put_in a _ (image_after done) ∙ sym (image_bytes a done))
      at b (inr apart) = put_in-others a _ (image_after done) b apart

  sync_rests : (new : List Done) → new ≡ done ++ synced ∷ [] → Rests (past_state done) (past_state new)
  sync_rests new is = subst (λ l. Rests (past_state done) (past_state l)) (sym is) (record {
    reads = λ m reads. reads ∙ sym image_synced;
    crash = crash;
    time = elapses_more done synced;
  })
    where
      split : (cs : List Change) (c : List ℕ) → MayHold (Sync ∷ cs) c → (d : List ℕ) × MayHold cs d × (c ≡ d)
      split cs c held = (c, subst (MayHold cs) (sym held) (read_may_be cs), refl)

      crash : (c : DiskImage) → MayBe (done ++ synced ∷ []) c → MayBe done c
      crash c left =
          let from = came_from done call a Sync (λ d c. c ≡ d) split c left in
          subst (MayBe done) (same_images _ _ (λ b. ⊎_elim (λ same. subst (λ k. bytes_of k from.0 ≡ bytes_of k c) (sym same) (sym from.2)) (λ apart. sym (from.3 b apart)) (area_cases a b))) from.1

  pub sync_stable : (new : List Done) → new ≡ done ++ synced ∷ [] → IsStable a (λ bytes. bytes) (past_state done) (past_state new)
  sync_stable new is m reads c left =
      subst (λ cs. MayHold cs (bytes_of a c)) (ap (changes_in a) is ∙ here done call a Sync) (left a)
      ∙ sym (image_bytes a done) ∙ ap (bytes_of a) (sym reads)

  -- where it was kept, and where it wasn't
  pub sync_rests_so : (kept : Bool) (new : List Done) → new ≡ cond kept (done ++ synced ∷ []) done → Rests (past_state done) (past_state new)
  sync_rests_so true new is = sync_rests new is
  sync_rests_so false new is = subst (λ l. Rests (past_state done) (past_state l)) (sym is) (record {
    reads = λ m reads. reads;
    crash = λ c left. left;
    time = elapses_not (past_state done);
  })

-- the changes of an area in one more of a list
pub changes_next : (done : List Done) (i : ℕ) (d : Done) (a : Area) (b : Bool) → i < length done → d ≡ get_or done i d → same_area d.area a ≡ b
    → changes_in a (take (i + 1) done) ≡ cond b (d.change ∷ changes_in a (take i done)) (changes_in a (take i done))
changes_next done i d a b inside is same =
    ap (changes_in a) (take_more done i d inside ∙ ap (λ e. take i done ++ e ∷ []) (sym is)) ∙ changes_more (take i done) d a b same
