-- Texts of headers, from their parts.
use Rattle.std.proofs.Common.{◌≡◌, ℕ, Bool, if◌then◌else◌, List, [], ◌++◌, codes, decimal, unwrap_or, refl, ◌∙◌, append_assoc}
use Rattle.std.specs.List.{flat_map}
use Rattle.b2_base.specs.FileId.{file_id}
use Rattle.name_rules.specs.Escape.{encoded_name}
use Rattle.b2_types.specs.declared.answer.ContentOf.{ContentOf}
use Rattle.b2_types.specs.declared.shown.ShownFile.{ShownFile}
use Rattle.b2_types.specs.declared.answer.AnswerOf.{AnswerOf}
use Rattle.b2_types.specs.Answer.{status_line}
use Rattle.http_edge.specs.Reply.{reply_head, status_text, body_headers, range_header, file_headers, info_header, digest_header, content_headers, line_end}

pub range_flat : (first last length : List ℕ)
    → codes "Content-Range: bytes " ++ (first ++ (codes "-" ++ (last ++ (codes "/" ++ (length ++ line_end))))) ≡ codes "Content-Range: bytes " ++ first ++ codes "-" ++ last ++ codes "/" ++ length ++ line_end
range_flat first last length = simp append_assoc

file_flat : (id name digest stamp info : List ℕ)
    → codes "X-Bz-File-Id: " ++ (id ++ (line_end ++ (codes "X-Bz-File-Name: " ++ (name ++ (line_end ++ (codes "X-Bz-Content-Sha1: " ++ (digest ++ (line_end ++ (codes "X-Bz-Upload-Timestamp: " ++ (stamp ++ (line_end ++ info)))))))))))
    ≡ codes "X-Bz-File-Id: " ++ id ++ line_end ++ codes "X-Bz-File-Name: " ++ name ++ line_end ++ codes "X-Bz-Content-Sha1: " ++ digest ++ line_end ++ codes "X-Bz-Upload-Timestamp: " ++ stamp ++ line_end ++ info
file_flat id name digest stamp info = simp append_assoc

pub file_text : (f : ShownFile) (id name digest info : List ℕ) (stamp : ℕ) → id ≡ file_id f.bucket f.num → name ≡ encoded_name f.name → digest ≡ digest_header f → info ≡ flat_map info_header f.info → stamp ≡ f.stamp
    → codes "X-Bz-File-Id: " ++ (id ++ (line_end ++ (codes "X-Bz-File-Name: " ++ (name ++ (line_end ++ (codes "X-Bz-Content-Sha1: " ++ (digest ++ (line_end ++ (codes "X-Bz-Upload-Timestamp: " ++ (decimal stamp ++ (line_end ++ info)))))))))))
    ≡ file_headers f
file_text f id name digest info stamp is_id is_name is_digest is_info is_stamp = file_flat id name digest (decimal stamp) info ∙ rw (is_id, is_name, is_digest, is_info, is_stamp) refl

content_flat : (kind len range file : List ℕ)
    → codes "Content-Type: " ++ (kind ++ (line_end ++ (codes "Content-Length: " ++ (len ++ (line_end ++ (range ++ (codes "Accept-Ranges: bytes" ++ (line_end ++ file))))))))
    ≡ codes "Content-Type: " ++ kind ++ line_end ++ codes "Content-Length: " ++ len ++ line_end ++ range ++ codes "Accept-Ranges: bytes" ++ line_end ++ file
content_flat kind len range file = simp append_assoc

pub content_text : {C : Type 0} (c : ContentOf C) (len : ℕ) (kind range file : List ℕ) → kind ≡ unwrap_or c.file.kind [] → range ≡ range_header c.file.length c.range → file ≡ file_headers c.file
    → codes "Content-Type: " ++ (kind ++ (line_end ++ (codes "Content-Length: " ++ (decimal len ++ (line_end ++ (range ++ (codes "Accept-Ranges: bytes" ++ (line_end ++ file)))))))) ≡ content_headers c len
content_text c len kind range file is_kind is_range is_file = content_flat kind (decimal len) range file ∙ rw (is_kind, is_range, is_file) refl

head_flat : (status body option : List ℕ) → status ++ (body ++ (codes "Connection: " ++ (option ++ (line_end ++ line_end)))) ≡ status ++ body ++ (codes "Connection: " ++ option ++ line_end) ++ line_end
head_flat status body option = simp append_assoc

pub head_text : {C : Type 0} (a : AnswerOf C) (len : ℕ) (stay : Bool) (status body option : List ℕ) → status ≡ status_text (status_line a) → body ≡ body_headers a len → option ≡ (if stay then codes "keep-alive" else codes "close")
    → status ++ (body ++ (codes "Connection: " ++ (option ++ (line_end ++ line_end)))) ≡ reply_head a len stay
head_text a len stay status body option is_status is_body is_option = head_flat status body option ∙ rw (is_status, is_body, is_option) refl
