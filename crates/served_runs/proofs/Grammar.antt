-- Whether bytes are the head of a request is decided.
use Rattle.std.proofs.Common.{◌≡◌, ℕ, zero, suc, ◌<◌, ◌≤◌, ◌⊎◌, inl, inr, List, [], ◌∷◌, ◌++◌, length, refl, sym, ap, ◌∙◌, append_assoc, append-nil, arith}
use Rattle.std.specs.List.{AllByRecursion, flat_map}
use Rattle.std.specs.Str.{IsUtf8, is_utf8}
use Rattle.std.proofs.lemmas.List.{length-append}
use Rattle.std.proofs.lemmas.List.Elements.{All-from_recursion, recursion_from_All}
use Rattle.std.proofs.lemmas.Str.{IsUtf8-from_is_utf8, is_utf8-from_IsUtf8}
use Rattle.httparse.specs.Grammar.{LineEnd, crlf, lf, print_end, print_blank, print_version, Field, print_field, IsField, print_section, RequestHead, IsRequestHead, IsToken, AllPass, is_token_byte, is_value_byte, is_uri_byte}
use Rattle.httparse.proofs.GrammarLemmas.{print_request-append, cons-append}
use Rattle.http_edge.specs.Headers.{HasHead}
use Rattle.served_runs.proofs.Decided.{Decided, as_well, both, either, is_true, is_below, same_list, all_pass, Split, is_split, Behind, is_behind, Written, AreWritten, are_written}

-- ---- the ends of lines

abbrev IsAny : LineEnd → Type 0
IsAny e = Unit {0}

abbrev IsLineEnd : List ℕ → Type 0
IsLineEnd = Written print_end IsAny

is_line_end : (l : List ℕ) → Decided (IsLineEnd l)
is_line_end l = as_well (either (same_list l (print_end crlf)) (same_list l (print_end lf))) into out
  where
    into : (l ≡ print_end crlf) ⊎ (l ≡ print_end lf) → IsLineEnd l
    into (inl is) = (crlf, tt, is)
    into (inr is) = (lf, tt, is)

    by : (e : LineEnd) → l ≡ print_end e → (l ≡ print_end crlf) ⊎ (l ≡ print_end lf)
    by crlf is = inl is
    by lf is = inr is

    out : IsLineEnd l → (l ≡ print_end crlf) ⊎ (l ≡ print_end lf)
    out w = by w.0 w.2

-- as many of them as there are bytes at most
abbrev IsBlank : List ℕ → Type 0
IsBlank l = AreWritten print_end IsAny (length l) l

is_blank : (l : List ℕ) → Decided (IsBlank l)
is_blank l = are_written print_end IsAny is_line_end (length l) l

each_any : (ends : List LineEnd) → AllByRecursion IsAny ends
each_any [] = tt
each_any (e ∷ ends) = (tt, each_any ends)

some_byte : (e : LineEnd) → 1 ≤ length (print_end e)
some_byte crlf = omega arith
some_byte lf = omega arith

fewer_ends : (ends : List LineEnd) → length ends ≤ length (print_blank ends)
fewer_ends [] = omega arith
fewer_ends (e ∷ ends) =
    let size = length-append (print_end e) (print_blank ends) in
    let first = some_byte e in
    let rest = fewer_ends ends in omega (arith, size, first, rest)

blank_of : (ends : List LineEnd) → IsBlank (print_blank ends)
blank_of ends = record { items = ends; each = each_any ends; few = fewer_ends ends; text = refl }

-- ---- the start line

is_token_text : (l : List ℕ) → Decided (IsToken l)
is_token_text l = both (is_below 0 (length l)) (all_pass is_token_byte l)

abbrev IsTarget : List ℕ → Type 0
IsTarget l = (0 < length l) × AllPass is_uri_byte l × IsUtf8 l

is_target : (l : List ℕ) → Decided (IsTarget l)
is_target l = as_well (both (is_below 0 (length l)) (both (all_pass is_uri_byte l) (as_well (is_true (is_utf8 l)) (IsUtf8-from_is_utf8 l) (is_utf8-from_IsUtf8 l))))
    (λ p. (p.0, p.1.0, p.1.1)) (λ t. (t.0, (t.1, t.2)))

abbrev IsVersion : List ℕ → Type 0
IsVersion l = (minor : ℕ) × (minor ≤ 1) × (l ≡ print_version minor)

is_version : (l : List ℕ) → Decided (IsVersion l)
is_version l = as_well (either (same_list l (print_version 0)) (same_list l (print_version 1))) into out
  where
    into : (l ≡ print_version 0) ⊎ (l ≡ print_version 1) → IsVersion l
    into (inl is) = (0, omega arith, is)
    into (inr is) = (1, omega arith, is)

    by : (minor : ℕ) → minor ≤ 1 → l ≡ print_version minor → (l ≡ print_version 0) ⊎ (l ≡ print_version 1)
    by zero low is = inl is
    by (suc zero) low is = inr is
    by (suc (suc n)) low is = absurd (omega (arith, low))

    out : IsVersion l → (l ≡ print_version 0) ⊎ (l ≡ print_version 1)
    out v = by v.0 v.1 v.2

-- ---- the fields

abbrev IsFieldText : List ℕ → Type 0
IsFieldText = Split IsToken (Behind 58 (Split (AllPass is_value_byte) IsLineEnd))

field_text : (f : Field) → print_field f ≡ f.name ++ (58 ∷ (f.raw ++ print_end f.end))
field_text f = regroup f.name f.raw (print_end f.end)
  where
    regroup : (a b c : List ℕ) → a ++ 58 ∷ b ++ c ≡ a ++ (58 ∷ (b ++ c))
    regroup a b c = simp (append_assoc, cons-append)

field_from : (l : List ℕ) → IsFieldText l → Written print_field IsField l
field_from l (name, l1, split, token, (l2, l1_is, (raw, l3, split2, value, (end, any, end_is)))) =
    let f : Field = record { name = name; raw = raw; end = end } in
    let e2 : l2 ≡ raw ++ print_end end = split2 ∙ ap (λ x. raw ++ x) end_is in
    let e1 : l1 ≡ 58 ∷ (raw ++ print_end end) = l1_is ∙ ap (λ x. 58 ∷ x) e2 in
    (f, record { name = token; raw = value }, split ∙ ap (λ x. name ++ x) e1 ∙ sym (field_text f))

field_into : (l : List ℕ) → Written print_field IsField l → IsFieldText l
field_into l (f, good, is) =
    (f.name, 58 ∷ (f.raw ++ print_end f.end), is ∙ field_text f, good.name, (f.raw ++ print_end f.end, refl, (f.raw, print_end f.end, refl, good.raw, (f.end, tt, refl))))

is_field : (l : List ℕ) → Decided (Written print_field IsField l)
is_field l = as_well
    (is_split IsToken (Behind 58 (Split (AllPass is_value_byte) IsLineEnd)) is_token_text (is_behind 58 (Split (AllPass is_value_byte) IsLineEnd) (is_split (AllPass is_value_byte) IsLineEnd (all_pass is_value_byte) is_line_end)) l)
    (field_from l) (field_into l)

abbrev IsSection : List ℕ → Type 0
IsSection = Split (AreWritten print_field IsField 64) IsLineEnd

is_section : (l : List ℕ) → Decided (IsSection l)
is_section = is_split (AreWritten print_field IsField 64) IsLineEnd (are_written print_field IsField is_field 64) is_line_end

-- ---- the whole head

abbrev AfterVersion : List ℕ → Type 0
AfterVersion = Split IsLineEnd IsSection

abbrev AfterTarget : List ℕ → Type 0
AfterTarget = Behind 32 (Split IsVersion AfterVersion)

abbrev AfterMethod : List ℕ → Type 0
AfterMethod = Behind 32 (Split IsTarget AfterTarget)

abbrev IsHeadText : List ℕ → Type 0
IsHeadText = Split IsBlank (Split IsToken AfterMethod)

is_head_text : (l : List ℕ) → Decided (IsHeadText l)
is_head_text = is_split IsBlank (Split IsToken AfterMethod) is_blank (is_split IsToken AfterMethod is_token_text after_method)
  where
    after_version : (l : List ℕ) → Decided (AfterVersion l)
    after_version = is_split IsLineEnd IsSection is_line_end is_section

    after_target : (l : List ℕ) → Decided (AfterTarget l)
    after_target = is_behind 32 (Split IsVersion AfterVersion) (is_split IsVersion AfterVersion is_version after_version)

    after_method : (l : List ℕ) → Decided (AfterMethod l)
    after_method = is_behind 32 (Split IsTarget AfterTarget) (is_split IsTarget AfterTarget is_target after_target)

head_from : (bytes : List ℕ) → IsHeadText bytes → HasHead bytes
head_from bytes (b, l1, split, blank, (m, l2, split2, method, (l3, l2_is, (t, l4, split3, target, (l5, l4_is, (v, l6, split4, (minor, low, v_is), (e, l7, split5, (end, any, e_is), (f, g, split6, fields, (last, same, g_is))))))))) =
    let h : RequestHead = record { blank = blank.items; method = m; target = t; minor = minor; line_end = end; fields = fields.items; last = last } in
    let section = print_section fields.items last in
    let e7 : l7 ≡ section ++ [] = split6 ∙ ap (λ x. x ++ g) fields.text ∙ ap (λ x. flat_map print_field fields.items ++ x) g_is ∙ sym (append-nil section) in
    let e6 : l6 ≡ print_end end ++ (section ++ []) = split5 ∙ ap (λ x. x ++ l7) e_is ∙ ap (λ x. print_end end ++ x) e7 in
    let e5 : l5 ≡ print_version minor ++ (print_end end ++ (section ++ [])) = split4 ∙ ap (λ x. x ++ l6) v_is ∙ ap (λ x. print_version minor ++ x) e6 in
    let e4 : l4 ≡ 32 ∷ (print_version minor ++ (print_end end ++ (section ++ []))) = l4_is ∙ ap (λ x. 32 ∷ x) e5 in
    let e3 : l3 ≡ t ++ (32 ∷ (print_version minor ++ (print_end end ++ (section ++ [])))) = split3 ∙ ap (λ x. t ++ x) e4 in
    let e2 : l2 ≡ 32 ∷ (t ++ (32 ∷ (print_version minor ++ (print_end end ++ (section ++ []))))) = l2_is ∙ ap (λ x. 32 ∷ x) e3 in
    let e1 : l1 ≡ m ++ (32 ∷ (t ++ (32 ∷ (print_version minor ++ (print_end end ++ (section ++ [])))))) = split2 ∙ ap (λ x. m ++ x) e2 in
    let e0 : bytes ≡ print_blank blank.items ++ (m ++ (32 ∷ (t ++ (32 ∷ (print_version minor ++ (print_end end ++ (section ++ []))))))) =
    split ∙ ap (λ x. x ++ l1) blank.text ∙ ap (λ x. print_blank blank.items ++ x) e1 in
    let is : IsRequestHead h = record { method = method; target = (target.0, target.1); target_text = target.2; minor = low; fields = All-from_recursion IsField fields.items fields.each } in
    (h, ((is, e0 ∙ sym (print_request-append h [])), fields.few))

head_into : (bytes : List ℕ) → HasHead bytes → IsHeadText bytes
head_into bytes (h, ((is, text), few)) =
    let section = print_section h.fields h.last in
    let fields : AreWritten print_field IsField 64 (flat_map print_field h.fields) = record { items = h.fields; each = recursion_from_All IsField h.fields is.fields; few = few; text = refl } in
    let r7 = section ++ [] in
    let r6 = print_end h.line_end ++ r7 in
    let r5 = print_version h.minor ++ r6 in
    let r3 = h.target ++ (32 ∷ r5) in (
      print_blank h.blank,
      h.method ++ (32 ∷ r3),
      text ∙ print_request-append h [],
      blank_of h.blank,
      (
        h.method,
        32 ∷ r3,
        refl,
        is.method,
        (
          r3,
          refl,
          (
            h.target,
            32 ∷ r5,
            refl,
            (is.target.0, is.target.1, is.target_text),
            (
              r5,
              refl,
              (
                print_version h.minor,
                r6,
                refl,
                (h.minor, is.minor, refl),
                (
                  print_end h.line_end,
                  r7,
                  refl,
                  (h.line_end, tt, refl),
                  (flat_map print_field h.fields, print_end h.last, append-nil section, fields, (h.last, tt, refl)),
                ),
              ),
            ),
          ),
        ),
      ),
    )

pub has_head : (bytes : List ℕ) → Decided (HasHead bytes)
has_head bytes = as_well (is_head_text bytes) (head_from bytes) (head_into bytes)
