-- Sending a request to a port, and reading a file of keys.
use Rattle.std.specs.Prelude.{◌≡◌, ◌⊎◌, ℕ, List, Option, Result, Err}
use Rattle.std.specs.declared.net.tcp.TcpStream.{TcpStream}
use Rattle.terms.specs.declared.writing.WriteFault.{WriteFault}
use Rattle.clerks.specs.declared.clerk.Clerk.{Clerk}
use Rattle.front.specs.Keys.{ReadsKeys}
use Rattle.front.specs.declared.keys.KeysFault.{KeysFault}
use Rattle.front.specs.declared.keys.KeysFault.TheVariants.{Read}
use Rattle.web.specs.Sending.{send_bytes}
use Rattle.circ.specs.declared.lines.Exit.{Exit}
use Rattle.circ.specs.declared.lines.Exit.TheVariants.{Faulted}
use Rattle.circ.specs.Lines.{no_network_line, EndsWith}
use Rattle.circ.specs.Sending.{TellsSent, WritesLine}

-- The words were sent over a stream that holds these bytes, and has taken those; its answer was told, or why
-- there is none.
abbrev pub Exchanges : List ℕ → List ℕ → List (List ℕ) → Option (List ℕ) → Option (List ℕ) → Option (List ℕ) → Option (List ℕ)
    → Result Exit WriteFault → Type 0
Exchanges desk_key key words came unsent before after result =
    (sent : Option (List ℕ)) × WritesLine (TellsSent (send_bytes desk_key key words) came unsent sent) before after result

-- A stream led to the port, and so the words were sent; or there was none, and that is told.
abbrev pub SendsTo : (ℕ → TcpStream → Type 0) → ℕ → List ℕ → List ℕ → List (List ℕ) → Option (List ℕ) → Option (List ℕ)
    → Result Exit WriteFault → Type 0
SendsTo leads port desk_key key words before after result =
    ((stream : TcpStream) × leads port stream
    × (came : Option (List ℕ)) × (unsent : Option (List ℕ)) × Exchanges desk_key key words came unsent before after result)
    ⊎ EndsWith Faulted no_network_line before after result

-- A file was opened at the path, and the clerks in it were read; or none could be opened.
abbrev pub ReadsClerksAt : {F : Type 0} → (F → Option (List ℕ)) → (List ℕ → F → Type 0) → List ℕ → Result (List Clerk) KeysFault → Type 0
ReadsClerksAt {F} remaining opened path result =
    ((file : F) × opened path file × ReadsKeys (remaining file) result) ⊎ (result ≡ Err Read)
