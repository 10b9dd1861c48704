-- Contents that came whole, as the machine has them.
use Rattle.b2_base.specs.declared.extent.Extent.{Extent}
use Rattle.b2_model.specs.Body.{Body}
use Rattle.new_versions.specs.declared.body.Body.{Body as TheBody}

abbrev pub body_at : TheBody → Body Extent
body_at b = record { content = b.content; digest = b.digest; told = b.told }
