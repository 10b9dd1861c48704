use Rattle.std.proofs.Common.{◌≡◌, List, get_or, subst, sym, ◌∙◌}
use Rattle.std.proofs.lemmas.Option.{get_or_from_slice_get}
use Rattle.b2_base.specs.declared.numbers.TheConstants.{LAST_VERSION}
use Rattle.b2_types.specs.declared.bucket.Bucket.{Bucket}
use Rattle.b2_model.specs.Pass.{names_in, pass_names}
use Rattle.b2_model.specs.Rows.{rows}
use Rattle.bucket_pass.specs.Changes.{AreChanges, after_changes}
use Rattle.core_records.proofs.Steps.{have_room, it_stands, numbered}
use Rattle.core_records.proofs.lifecycle.planned.Goals as goal

pub returns-clause-stands : goal.returns-clause-stands
returns-clause-stands c =
    let b = c.index-buckets-at.result in
    it_stands c.args.core.now c.is_sound.ensures.sound c.args.at b c.requires (subst (λ (bs : List Bucket). b ≡ get_or bs c.args.at b) c.buckets.ensures c.index-buckets-at.is)

pub returns-clause-room : goal.returns-clause-room
returns-clause-room c =
    let M = c.args.core.now in
    let b = c.index-buckets-at.result in
    let plans = c.in_ok-plans.plans in
    have_room c.args.t b M LAST_VERSION c.is_sound.ensures.last M.next_version plans
    (subst (λ n. AreChanges c.args.t b M n plans) c.next_version.ensures (c.in_ok-plans.ensures.changes M (sym c.last_version-last.ensures) (c.index.ensures.listed b.num)))

pub returns-clause-state : goal.returns-clause-state
returns-clause-state c = λ (b : Bucket) there.
    let M = c.args.core.now in
    let a = c.index-buckets-at.result in
    let plans = c.in_ok-plans.plans in
    let is : a ≡ get_or M.buckets c.args.at a = subst (λ (bs : List Bucket). a ≡ get_or bs c.args.at a) c.buckets.ensures c.index-buckets-at.is in
    let same : a ≡ b = is ∙ get_or_from_slice_get M.buckets c.args.at b a there in
    subst (λ (x : Bucket). pass_names c.args.t x (names_in (rows M x.num)) M ≡ after_changes c.args.t a.num plans M) same
    (c.in_ok-plans.ensures.pass M (numbered M c.is_sound.ensures.sound) (sym c.next_version.ensures) (sym c.last_version-last.ensures) (c.index.ensures.listed a.num))
