-- The bytes of a desk request, as the client sends it.
use Rattle.std.specs.Prelude.{ℕ, List, ◌++◌, length, codes}
use Rattle.serde_json.specs.Data.{array}
use Rattle.serde_json.specs.Written.{compact_text}
use Rattle.web.specs.Answers.{crlf, fields_text}
use Rattle.web.specs.Json.{texts_data}

-- The first line, the host, and the two keys.
unfoldable pub send_start : List ℕ → List ℕ → List ℕ
send_start desk_key key =
    codes "POST /desk HTTP/1.1" ++ (crlf ++ (codes "Host: 127.0.0.1" ++ (crlf ++ (codes "Desk-Key: " ++ (desk_key
    ++ (crlf ++ (codes "Request-Key: " ++ (key ++ crlf))))))))

-- The words as a JSON list of texts, without spaces between them.
abbrev pub words_text : List (List ℕ) → List ℕ
words_text words = compact_text (array (texts_data words))

-- The request: its first line, its fields, and the words as its body.
abbrev pub send_bytes : List ℕ → List ℕ → List (List ℕ) → List ℕ
send_bytes desk_key key words =
    send_start desk_key key ++ (fields_text (length (words_text words)) ++ words_text words)
