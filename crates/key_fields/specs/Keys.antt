-- The fields of the calls on keys, in the order in which they are judged (the B2 reference).
use Rattle.std.specs.Prelude.{codes}
use Rattle.json_shape.specs.Fields.{number_within}
use Rattle.b2_types.specs.declared.kinds.ApiVersion.{ApiVersion}
use Rattle.b2_types.specs.declared.call.CreateKey.{CreateKey}
use Rattle.b2_types.specs.declared.call.DeleteKey.{DeleteKey}
use Rattle.b2_types.specs.declared.call.ListKeys.{ListKeys}
use Rattle.field_kinds.specs.declared.texts.TextRule.TheVariants as rule
use Rattle.field_kinds.specs.Reader.{Reader, fields_of, ◌with◌, needed, optional}
use Rattle.field_kinds.specs.Kinds.{text, text_by}
use Rattle.key_fields.specs.Capabilities.{capabilities}
use Rattle.key_fields.specs.Limits.{limits, prefix}

-- for at most 1,000 days less a second
abbrev pub create_key : ApiVersion → Reader CreateKey
create_key version = fields_of (λ account caps name duration buckets front.
    record { version = version; account = account; caps = caps; name = name; duration = duration; buckets = buckets; prefix = front })
    with needed (codes "accountId") text
    with needed (codes "capabilities") capabilities
    with needed (codes "keyName") (text_by rule.KeyName)
    with optional (codes "validDurationInSeconds") (number_within 1 86399999)
    with limits version
    with prefix version

abbrev pub delete_key : ApiVersion → Reader DeleteKey
delete_key version = fields_of (λ key. record { version = version; key = key })
    with needed (codes "applicationKeyId") (text_by rule.KeyId)

abbrev pub list_keys : ApiVersion → Reader ListKeys
list_keys version = fields_of (λ account max start. record { version = version; account = account; max = max; start = start })
    with needed (codes "accountId") text
    with optional (codes "maxKeyCount") (number_within 0 10000)
    with optional (codes "startApplicationKeyId") (text_by rule.KeyId)
