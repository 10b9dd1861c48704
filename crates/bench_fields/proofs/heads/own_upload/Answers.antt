use Rattle.std.proofs.Common.{ℕ, List, ◌∙◌, subst}
use Rattle.call_paths.specs.Path.{IsPath}
use Rattle.bench_fields.proofs.heads.own_upload.Goals as goal

pub measured-requires : goal.measured-requires
measured-requires c =
    let P : List ℕ → Type 0 = λ path. IsPath path c.in-Some.route in
    subst P (c.as_bytes.ensures.value ∙ c.get.ensures) c.in-Some.ensures
